-- One turn of each loop, and each rule that goes by cases, by its definition.
use Rattle.std.proofs.Common.{◌≡◌, ℕ, zero, suc, ◌-◌, ◌≤◌, ◌<◌, true, false, List, [], ◌∷◌, ◌++◌, length, Option, Some, None, refl, sym, ap, ◌∙◌, arith, append_assoc, subst, map}
use Rattle.agxx_base.specs.declared.place.Place.{Place}
use Rattle.agxx_base.specs.declared.ids.NameId.{NameId}
use Rattle.agxx_base.specs.declared.vocabulary.Sign.{Sign}
use Rattle.agxx_base.specs.declared.vocabulary.Sign.TheVariants as sg
use Rattle.cxx_tree.specs.declared.node.Node.{Node}
use Rattle.cxx_tree.specs.declared.node.Placed.{Placed}
use Rattle.cxx_tree.specs.declared.operator.BinOp.{BinOp}
use Rattle.cxx_tree.specs.declared.operator.UnOp.{UnOp}
use Rattle.cxx_tree.specs.declared.expr.Callee.{Callee}
use Rattle.cxx_tree.specs.ExprTree.{ExprTree, call, calls, new_with, listed_exprs}
use Rattle.cxx_tree.specs.Fits.{expr_level}
use Rattle.cxx_expr.specs.declared.stop.Stop.{Stop}
use Rattle.cxx_expr.specs.Tokens.{Tokens, sees, after}
use Rattle.cxx_expr.specs.Outcome.{Outcome, done, failed, Parse, and_then}
use Rattle.cxx_expr.specs.Lefts.{node_at}
use Rattle.cxx_expr.specs.Within.{Within, advanced, operator_taken, operator_taken_by}
use Rattle.cxx_expr.specs.Descent.{operator, prefix_operator, joined, chain, front_of, closed, items_from, inner_at, enclosed, arguments, called, created_with, operated, primary, unary_from, unary, level, expr}

pub length-after : (ts : Tokens) → length (after ts) ≡ length ts - 1
length-after [] = omega arith
length-after (t ∷ ts) = omega arith

pub some-operator : (l : ℕ) (ts : Tokens) (o : Placed BinOp) → Some o ≡ operator l ts → 0 < length ts
some-operator l [] o e = cc
some-operator l (t ∷ ts) o e = omega arith

pub true-sees : (s : Sign) (ts : Tokens) → sees s ts ≡ true → 0 < length ts
true-sees s [] e = cc
true-sees s (t ∷ ts) e = omega arith

taken-words-by : (n : ℕ) (ts : Tokens) (u : Unit {0}) (next : Within) → operator_taken_by n ts ≡ done u next → next.words ≡ after ts
taken-words-by zero ts u next e = cc
taken-words-by (suc n) ts u next e =
    let passed : Within = record { words = after ts; operators = n } in
    let h : passed ≡ next = cc in
    ap (λ s. s.words) (sym h)

pub taken-words : (s : Within) (u : Unit {0}) (next : Within) → operator_taken s ≡ done u next → next.words ≡ after s.words
taken-words s u next e = taken-words-by s.operators s.words u next e

pub chain-stop : (p : Parse Within ExprTree) (l n : ℕ) (sofar : ExprTree) (s : Within) → None ≡ operator l s.words → chain p l n sofar s ≡ done sofar s
unfolding chain
chain-stop p l zero sofar s e = refl
chain-stop p l (suc n) sofar s e = rw (← e) refl

pub chain-full : (p : Parse Within ExprTree) (l n : ℕ) (sofar : ExprTree) (s : Within) (o : Placed BinOp) (why : Stop) (rest : Within)
    → length s.words ≤ n → Some o ≡ operator l s.words → operator_taken s ≡ failed why rest → chain p l n sofar s ≡ failed why rest
unfolding chain
chain-full p l zero sofar s o why rest h e a = absurd (omega (arith, h, some-operator l s.words o e))
chain-full p l (suc n) sofar s o why rest h e a = rw (← e, a) refl

pub chain-fail : (p : Parse Within ExprTree) (l n : ℕ) (sofar : ExprTree) (s : Within) (o : Placed BinOp) (u : Unit {0}) (why : Stop) (next rest : Within)
    → length s.words ≤ n → Some o ≡ operator l s.words → operator_taken s ≡ done u next → p next ≡ failed why rest → chain p l n sofar s ≡ failed why rest
unfolding chain
chain-fail p l zero sofar s o u why next rest h e a f = absurd (omega (arith, h, some-operator l s.words o e))
chain-fail p l (suc n) sofar s o u why next rest h e a f = rw (← e, a, f) refl

pub chain-turn : (p : Parse Within ExprTree) (l n : ℕ) (sofar : ExprTree) (s : Within) (o : Placed BinOp) (u : Unit {0}) (second : ExprTree) (next rest : Within)
    → length s.words ≤ n → Some o ≡ operator l s.words → operator_taken s ≡ done u next → p next ≡ done second rest → length rest.words ≤ length next.words
    → (m : ℕ) × (length rest.words ≤ m) × (chain p l n sofar s ≡ chain p l m (joined o sofar second) rest)
unfolding chain
chain-turn p l zero sofar s o u second next rest h e a f le = absurd (omega (arith, h, some-operator l s.words o e))
chain-turn p l (suc n) sofar s o u second next rest h e a f le =
    (n, omega (arith, h, le, some-operator l s.words o e, length-after s.words, ap length (taken-words s u next a)), rw (← e, a, f) refl)

pub items-fail : (p : Parse Within ExprTree) (n : ℕ) (s : Within) (why : Stop) (rest : Within) → length s.words < n → p s ≡ failed why rest → items_from p n s ≡ failed why rest
unfolding items_from
items-fail p zero s why rest h f = absurd (omega arith)
items-fail p (suc n) s why rest h f = rw f refl

pub items-more : (p : Parse Within ExprTree) (n : ℕ) (s : Within) (x : ExprTree) (rest next : Within)
    → length s.words < n → p s ≡ done x rest → sees sg.Comma rest.words ≡ true → next ≡ advanced rest → length rest.words ≤ length s.words
    → (m : ℕ) × (length next.words < m) × (items_from p n s ≡ front_of (x ∷ []) (items_from p m next))
unfolding items_from
items-more p zero s x rest next h f e a le = absurd (omega arith)
items-more p (suc n) s x rest next h f e a le =
    (n, omega (arith, h, le, true-sees sg.Comma rest.words e, length-after rest.words, ap (λ q. length q.words) a), rw (f, e, ← a) refl)

pub items-last : (p : Parse Within ExprTree) (n : ℕ) (s : Within) (x : ExprTree) (rest : Within)
    → length s.words < n → p s ≡ done x rest → sees sg.Comma rest.words ≡ false → items_from p n s ≡ front_of (x ∷ []) (closed [] rest)
unfolding items_from
items-last p zero s x rest h f e = absurd (omega arith)
items-last p (suc n) s x rest h f e = rw (f, e) refl

pub front_of-front_of : {S A : Type 0} (xs ys : List A) (o : Outcome S (List A)) → front_of xs (front_of ys o) ≡ front_of (xs ++ ys) o
front_of-front_of xs ys (done zs rest) = ap (λ q. done q rest) (sym (append_assoc xs ys zs))
front_of-front_of xs ys (failed why rest) = refl

pub expr-is : (depth : ℕ) (s : Within) → expr depth s ≡ level (inner_at depth) expr_level s
unfolding expr
expr-is zero s = refl
expr-is (suc depth) s = refl

level-suc : (inner : Option (Parse Within ExprTree)) (l : ℕ) (s : Within) (first : ExprTree) (rest : Within) → level inner l s ≡ done first rest
    → level inner (suc l) s ≡ chain (λ s. level inner l s) (suc l) (length rest.words) first rest
unfolding level
level-suc inner l s first rest e = rw e refl

pub level-step : (inner : Option (Parse Within ExprTree)) (l : ℕ) (s : Within) (first : ExprTree) (rest : Within) → 0 < l → level inner (l - 1) s ≡ done first rest
    → level inner l s ≡ chain (λ s. level inner (l - 1) s) l (length rest.words) first rest
level-step inner zero s first rest h e = absurd (omega arith)
level-step inner (suc l) s first rest h e =
    let down : suc l - 1 ≡ l = omega arith in
    let e' : level inner l s ≡ done first rest = subst (λ n. level inner n s ≡ done first rest) down e in
    subst (λ n. level inner (suc l) s ≡ chain (λ s. level inner n s) (suc l) (length rest.words) first rest) (sym down) (level-suc inner l s first rest e')

abbrev pub by_prefix : (inner : Option (Parse Within ExprTree)) (n : ℕ) (ts : Tokens) → Option (Placed UnOp) → Outcome Within ExprTree
by_prefix inner n ts None = primary inner (record { words = ts; operators = n })
by_prefix inner n ts (Some o) = and_then (operator_taken_by n ts) (λ u s. operated o (unary inner s))

pub unary_from-is : (inner : Option (Parse Within ExprTree)) (n : ℕ) (ts : Tokens) (o : Option (Placed UnOp)) → o ≡ prefix_operator ts → unary_from inner n ts ≡ by_prefix inner n ts o
unfolding unary_from unary
unary_from-is inner zero ts None e = rw (unary_from, ← e) refl
unary_from-is inner zero ts (Some o) e = rw (unary_from, ← e) refl
unary_from-is inner (suc n) ts None e = rw (unary_from, ← e) refl
unary_from-is inner (suc n) ts (Some o) e = rw (unary_from, ← e) refl

pub unary-is : (inner : Option (Parse Within ExprTree)) (s : Within) (o : Option (Placed UnOp)) → prefix_operator s.words ≡ o → unary inner s ≡ by_prefix inner s.operators s.words o
unfolding unary
unary-is inner s o e = unary_from-is inner s.operators s.words o (sym e)

pub unary-primary : (inner : Option (Parse Within ExprTree)) (s : Within) → None ≡ prefix_operator s.words → unary inner s ≡ primary inner s
unfolding unary
unary-primary inner s e = unary_from-is inner s.operators s.words None e

pub unary-prefix : (inner : Option (Parse Within ExprTree)) (s : Within) (o : Placed UnOp) → Some o ≡ prefix_operator s.words
    → unary inner s ≡ and_then (operator_taken s) (λ u s. operated o (unary inner s))
unfolding unary
unary-prefix inner s o e = unary_from-is inner s.operators s.words (Some o) e

pub enclosed-closes : (depth : ℕ) (s next rest : Within) (x : ExprTree) → 0 < depth → sees sg.OpenParen s.words ≡ true → next ≡ advanced s → expr (depth - 1) next ≡ done x rest
    → enclosed (inner_at depth) s ≡ closed x rest
unfolding enclosed
enclosed-closes zero s next rest x h e a f = absurd (omega arith)
enclosed-closes (suc depth) s next rest x h e a f =
    let down : suc depth - 1 ≡ depth = omega arith in
    let f' : expr depth next ≡ done x rest = subst (λ n. expr n next ≡ done x rest) down f in
    rw (e, ← a, f') refl

pub called-call : (inner : Option (Parse Within ExprTree)) (n : Node) (callee : Callee) (s rest : Within) (xs : List ExprTree) → sees sg.OpenParen s.words ≡ true → arguments inner s ≡ done xs rest
    → called inner n callee s ≡ done (call (calls n callee (listed_exprs xs))) rest
unfolding called
called-call inner n callee s rest xs e f = rw (e, f) refl

pub created_with-arguments : (inner : Option (Parse Within ExprTree)) (at : Place) (class : Placed NameId) (s rest : Within) (xs : List ExprTree) → sees sg.OpenParen s.words ≡ true → arguments inner s ≡ done xs rest
    → created_with inner at class s ≡ done (new_with (node_at at) class (listed_exprs xs)) rest
unfolding created_with
created_with-arguments inner at class s rest xs e f = rw (e, f) refl

pub map-push : {A B : Type 0} (f : A → B) (xs : List A) (x : A) (ys : List A) → ys ≡ xs ++ x ∷ [] → map f xs ++ f x ∷ [] ≡ map f ys
map-push f xs x ys e = sym (go xs) ∙ ap (map f) (sym e)
  where
    go : (zs : List _) → map f (zs ++ x ∷ []) ≡ map f zs ++ f x ∷ []
    go [] = refl
    go (z ∷ zs) = ap (λ q. f z ∷ q) (go zs)
