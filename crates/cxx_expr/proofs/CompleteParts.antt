-- What stands in parentheses is read again.
use Rattle.std.proofs.Common.{◌≡◌, ℕ, zero, suc, ◌<◌, Bool, true, false, List, [], ◌∷◌, ◌++◌, length, length-append, Option, Some, None, refl, ap, ◌∙◌, append_assoc, arith}
use Rattle.agxx_base.specs.declared.place.Place.{Place}
use Rattle.agxx_base.specs.declared.vocabulary.Sign.TheVariants as sg
use Rattle.agxx_base.specs.declared.vocabulary.SpecialName.{SpecialName}
use Rattle.cxx_tree.specs.declared.node.Node.{Node}
use Rattle.cxx_tree.specs.declared.operator.UnOp.TheVariants as un
use Rattle.cxx_tree.specs.declared.expr.Left.TheVariants as left_of
use Rattle.cxx_tree.specs.declared.expr.Base.TheVariants as base_of
use Rattle.cxx_tree.specs.declared.expr.Callee.{Callee}
use Rattle.cxx_tree.specs.declared.expr.Callee.TheVariants as callee_of
use Rattle.cxx_tree.specs.declared.program.TypeName.TheVariants as type_of
use Rattle.cxx_tree.specs.Words as w
use Rattle.cxx_tree.specs.Words.{Word, separated, each_after_comma, in_parentheses}
use Rattle.cxx_tree.specs.ExprTree as e
use Rattle.cxx_tree.specs.ExprTree.{ExprTree, ExprTrees, listed_exprs}
use Rattle.cxx_tree.specs.Spelling.{spell_ref, spell_callee, spell_expr, spell_each}
use Rattle.cxx_tree.specs.Limits.{Grammar, Opens}
use Rattle.cxx_tree.specs.Fits.{expr_level, FitsExpr, FitsAll}
use Rattle.cxx_tree.specs.Blank.{blank_expr, blank_exprs}
use Rattle.cxx_expr.specs.Tokens.{Tokens, words_of, sees}
use Rattle.cxx_expr.specs.Outcome.{done, Parse}
use Rattle.cxx_expr.specs.Within.{Within}
use Rattle.cxx_expr.specs.Descent.{front_of, items_from, items, enclosed, arguments, called}
use Rattle.cxx_expr.proofs.Turns.{called-call}
use Rattle.cxx_expr.proofs.Good.{words-append}
use Rattle.cxx_expr.proofs.States.{before, before-append}
use Rattle.cxx_expr.proofs.Fronts.{token, front_cons, front_append, front_one, in_parens, Ends, Ends-close, Ends-comma, sees_in, sees-words}

-- an expression begins with no closing parenthesis
not_close_ref : (global : Bool) (n : Node) (x : _) (ws : List Word) → sees_in sg.CloseParen (spell_ref (record { node = n; global = global; name = x }) ++ ws) ≡ false
not_close_ref true n x ws = refl
not_close_ref false n x ws = refl

not_close_callee : (c : Callee) (ws : List Word) → sees_in sg.CloseParen (spell_callee c ++ ws) ≡ false
not_close_callee (callee_of.Bare r) ws = not_close_ref r.global r.node r.name ws
not_close_callee (callee_of.Member s) ws = by_base s.base
  where
    by_base : (b : _) → sees_in sg.CloseParen (spell_callee (callee_of.Member (record { base = b; name = s.name })) ++ ws) ≡ false
    by_base base_of.This = refl
    by_base (base_of.Dot r) = ap (sees_in sg.CloseParen) (ap (λ q. q ++ ws) (append_assoc (spell_ref r) _ _) ∙ append_assoc (spell_ref r) _ ws) ∙ not_close_ref r.global r.node r.name _
    by_base (base_of.Arrow r) = ap (sees_in sg.CloseParen) (ap (λ q. q ++ ws) (append_assoc (spell_ref r) _ _) ∙ append_assoc (spell_ref r) _ ws) ∙ not_close_ref r.global r.node r.name _

not_close : (special : SpecialName → ℕ) (t : ExprTree) (ws : List Word) → sees_in sg.CloseParen (spell_expr special t ++ ws) ≡ false
not_close special (e.lit n value) ws = refl
not_close special (e.flag n true) ws = refl
not_close special (e.flag n false) ws = refl
not_close special (e.null n) ws = refl
not_close special (e.this n) ws = refl
not_close special (e.left (left_of.Name r)) ws = not_close_callee (callee_of.Bare r) ws
not_close special (e.left (left_of.Member n s)) ws = not_close_callee (callee_of.Member s) ws
not_close special (e.left (left_of.Result n)) ws = refl
not_close special (e.unary n un.Negate operand) ws = refl
not_close special (e.unary n un.Not operand) ws = refl
not_close special (e.unary n un.Complement operand) ws = refl
not_close special (e.unary n un.AddressOf operand) ws = refl
not_close special (e.binary n o a b) ws = ap (sees_in sg.CloseParen) (append_assoc (spell_expr special a) _ ws) ∙ not_close special a _
not_close special (e.paren n inner) ws = refl
not_close special (e.cast n (type_of.Num kind) operand) ws = refl
not_close special (e.cast n type_of.Int operand) ws = refl
not_close special (e.cast n type_of.Unsigned operand) ws = refl
not_close special (e.cast n type_of.Void operand) ws = refl
not_close special (e.cast n (type_of.Pointer class) operand) ws = refl
not_close special (e.cast n type_of.Mutex operand) ws = refl
not_close special (e.call (e.calls n callee xs)) ws = ap (sees_in sg.CloseParen) (append_assoc (spell_callee callee) _ ws) ∙ not_close_callee callee _
not_close special (e.new n class) ws = refl
not_close special (e.new_with n class xs) ws = refl

pub opens : (s : _) (words : List Word) (front : Tokens) (rest : Within) → words_of front ≡ in_parentheses words → sees s (before front rest).words ≡ sees_in s (w.sign sg.OpenParen ∷ [])
opens s words front rest e = sees-words s (front ++ rest.words) ∙ ap (sees_in s) (words-append front rest.words ∙ ap (λ q. q ++ words_of rest.words) e)

module _ (special : SpecialName → ℕ) (g : Grammar) where
  abbrev pub IsReadAs : Parse Within ExprTree → ExprTree → Tokens → Within → Type 0
  IsReadAs p t front rest = (t' : ExprTree) × (blank_expr t' ≡ blank_expr t) × (p (before front rest) ≡ done t' rest)

  abbrev pub IsFull : ℕ → ℕ → Parse Within ExprTree → Type 0
  IsFull depth l p = (t : ExprTree) (front : Tokens) (rest : Within) → FitsExpr g depth l t → words_of front ≡ spell_expr special t → Ends l rest.words → IsReadAs p t front rest

  abbrev pub IsFullInside : ℕ → Option (Parse Within ExprTree) → Type 0
  IsFullInside depth None = depth ≡ 0
  IsFullInside depth (Some p) = (below : ℕ) → depth ≡ suc below → IsFull below expr_level p

  abbrev pub AreRead : Parse Within (List ExprTree) → ExprTrees → Tokens → Within → Type 0
  AreRead q xs front rest = (ys : List ExprTree) × (blank_exprs (listed_exprs ys) ≡ blank_exprs xs) × (q (before front rest) ≡ done ys rest)

  abbrev close : List Word
  close = w.sign sg.CloseParen ∷ []

  abbrev others : ExprTrees → List Word
  others xs = each_after_comma (spell_each special xs)

  module _ (below : ℕ) (p : Parse Within ExprTree) (F : IsFull below expr_level p) where
    items_last : (n : ℕ) (x : ExprTree) (s : Within) (at : Place) (rest : Within) → p s ≡ done x (before (token at (w.sign sg.CloseParen) ∷ []) rest) → items_from p (suc n) s ≡ done (x ∷ []) rest
    unfolding items_from
    items_last n x s at rest e = rw e refl

    items_turn : (n : ℕ) (x : ExprTree) (s : Within) (at : Place) (rest : Within) → p s ≡ done x (before (token at (w.sign sg.Comma) ∷ []) rest) → items_from p (suc n) s ≡ front_of (x ∷ []) (items_from p n rest)
    unfolding items_from
    items_turn n x s at rest e = rw e refl

    items_from-full : (xs : ExprTrees) (x : ExprTree) (front : Tokens) (rest : Within) (n : ℕ) → FitsExpr g below expr_level x → FitsAll g below xs
        → words_of front ≡ spell_expr special x ++ (others xs ++ close) → length (front ++ rest.words) < n → AreRead (items_from p n) (e.more_exprs x xs) front rest
    items_from-full xs x front rest zero u v i h = absurd (omega (arith, h))
    items_from-full e.no_exprs x front rest (suc n) u v i h =
        let s = front_append (spell_expr special x) close front i in
        let c = front_one (w.sign sg.CloseParen) s.1 s.4 in
        let tail : Tokens = token c.0 (w.sign sg.CloseParen) ∷ [] in
        let whole : before front rest ≡ before s.0 (before tail rest) = ap (λ q. before q rest) (s.2 ∙ ap (λ q. s.0 ++ q) c.1) ∙ before-append s.0 tail rest in
        let r = F x s.0 (before tail rest) u s.3 (Ends-close expr_level c.0 rest.words) in
        (r.0 ∷ [], ap (λ q. e.more_exprs q e.no_exprs) r.1, ap (items_from p (suc n)) whole ∙ items_last n r.0 (before s.0 (before tail rest)) c.0 rest r.2)
    items_from-full (e.more_exprs y ys) x front rest (suc n) u v i h =
        let s = front_append (spell_expr special x) (others (e.more_exprs y ys) ++ close) front i in
        let c = front_cons (w.sign sg.Comma) ((spell_expr special y ++ others ys) ++ close) s.1 s.4 in
        let tail : Tokens = token c.0 (w.sign sg.Comma) ∷ c.1 in
        let cut : front ≡ s.0 ++ tail = s.2 ∙ ap (λ q. s.0 ++ q) c.2 in
        let whole : before front rest ≡ before s.0 (before tail rest) = ap (λ q. before q rest) cut ∙ before-append s.0 tail rest in
        let r = F x s.0 (before tail rest) u s.3 (Ends-comma expr_level c.0 (c.1 ++ rest.words)) in
        let k = items_from-full ys y c.1 rest n v.0 v.1 (c.3 ∙ append_assoc (spell_expr special y) (others ys) close)
        (omega (arith, h, ap length cut, length-append s.0 tail, length-append front rest.words, length-append c.1 rest.words)) in (
          r.0 ∷ k.0,
          ap (λ q. e.more_exprs q (blank_exprs (listed_exprs k.0))) r.1 ∙ ap (e.more_exprs (blank_expr x)) k.1,
          ap (items_from p (suc n)) whole ∙ items_turn n r.0 (before s.0 (before tail rest)) c.0 (before c.1 rest) r.2 ∙ ap (front_of (r.0 ∷ [])) k.2,
        )

    items_none : (at : Place) (rest : Within) → items p (before (token at (w.sign sg.CloseParen) ∷ []) rest) ≡ done [] rest
    unfolding items
    items_none at rest = refl

    items_some : (s : Within) → sees sg.CloseParen s.words ≡ false → items p s ≡ items_from p (suc (length s.words)) s
    unfolding items
    items_some s e = rw e refl

    items-full : (xs : ExprTrees) (front : Tokens) (rest : Within) → FitsAll g below xs → words_of front ≡ separated (spell_each special xs) ++ close → AreRead (items p) xs front rest
    items-full e.no_exprs front rest v i =
        let c = front_one (w.sign sg.CloseParen) front i in
        ([], refl, ap (λ q. items p (before q rest)) c.1 ∙ items_none c.0 rest)
    items-full (e.more_exprs x xs) front rest v i =
        let j : words_of front ≡ spell_expr special x ++ (others xs ++ close) = i ∙ append_assoc (spell_expr special x) (others xs) close in
        let spelled : words_of (front ++ rest.words) ≡ spell_expr special x ++ ((others xs ++ close) ++ words_of rest.words) =
        words-append front rest.words ∙ ap (λ q. q ++ words_of rest.words) j ∙ append_assoc (spell_expr special x) (others xs ++ close) (words_of rest.words) in
        let ended : sees sg.CloseParen (front ++ rest.words) ≡ false = sees-words sg.CloseParen (front ++ rest.words) ∙ ap (sees_in sg.CloseParen) spelled ∙ not_close special x ((others xs ++ close) ++ words_of rest.words) in
        let k = items_from-full xs x front rest (suc (length (front ++ rest.words))) v.0 v.1 j (omega arith) in
        (k.0, k.1, items_some (before front rest) ended ∙ k.2)

  enclosed_by : (p : Parse Within ExprTree) (at close_at : Place) (s : Within) (t : ExprTree) (rest : Within) → p s ≡ done t (before (token close_at (w.sign sg.CloseParen) ∷ []) rest)
      → enclosed (Some p) (before (token at (w.sign sg.OpenParen) ∷ []) s) ≡ done t rest
  unfolding enclosed
  enclosed_by p at close_at s t rest e = rw e refl

  pub enclosed-full : (depth : ℕ) (inner : Option (Parse Within ExprTree)) → IsFullInside depth inner → (t : ExprTree) (front : Tokens) (rest : Within)
      → Opens depth (λ below. FitsExpr g below expr_level t) → words_of front ≡ in_parentheses (spell_expr special t) → IsReadAs (enclosed inner) t front rest
  enclosed-full depth None F t front rest v i = absurd (omega (arith, F, v.1))
  enclosed-full depth (Some p) F t front rest v i =
      let h = in_parens (spell_expr special t) front i in
      let tail : Within = before (token h.closing (w.sign sg.CloseParen) ∷ []) rest in
      let r = F v.0 v.1 t h.inner tail v.2 h.spelled (Ends-close expr_level h.closing rest.words) in
      (r.0, r.1, ap (enclosed (Some p)) (h.parts rest) ∙ enclosed_by p h.opening h.closing (before h.inner tail) r.0 rest r.2)

  arguments_by : (p : Parse Within ExprTree) (at : Place) (s : Within) → arguments (Some p) (before (token at (w.sign sg.OpenParen) ∷ []) s) ≡ items p s
  unfolding arguments
  arguments_by p at s = refl

  pub arguments-full : (depth : ℕ) (inner : Option (Parse Within ExprTree)) → IsFullInside depth inner → (xs : ExprTrees) (front : Tokens) (rest : Within)
      → Opens depth (λ below. FitsAll g below xs) → words_of front ≡ in_parentheses (separated (spell_each special xs)) → AreRead (arguments inner) xs front rest
  arguments-full depth None F xs front rest v i = absurd (omega (arith, F, v.1))
  arguments-full depth (Some p) F xs front rest v i =
      let h = front_cons (w.sign sg.OpenParen) (separated (spell_each special xs) ++ close) front i in
      let r = items-full v.0 p (F v.0 v.1) xs h.1 rest v.2 h.3 in
      (r.0, r.1, ap (λ q. arguments (Some p) (before q rest)) h.2 ∙ arguments_by p h.0 (before h.1 rest) ∙ r.2)

  pub called-full : (depth : ℕ) (inner : Option (Parse Within ExprTree)) → IsFullInside depth inner → (n : Node) (callee : Callee) (xs : ExprTrees) (front : Tokens) (rest : Within)
      → Opens depth (λ below. FitsAll g below xs) → words_of front ≡ in_parentheses (separated (spell_each special xs))
      → (ys : List ExprTree) × (blank_exprs (listed_exprs ys) ≡ blank_exprs xs) × (called inner n callee (before front rest) ≡ done (e.call (e.calls n callee (listed_exprs ys))) rest)
  called-full depth inner F n callee xs front rest v i =
      let r = arguments-full depth inner F xs front rest v i in
      (r.0, r.1, called-call inner n callee (before front rest) rest r.0 (opens sg.OpenParen (separated (spell_each special xs)) front rest i) r.2)
