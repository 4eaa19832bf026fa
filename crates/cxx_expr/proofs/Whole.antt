-- What an expression that is all the words says, and what a refusal does.
use Rattle.std.proofs.Common.{◌≡◌, ℕ, Bool, true, false, ◌+◌, ◌-◌, ◌≤◌, List, [], ◌∷◌, ◌++◌, take, drop, length, length-append, map, Some, ◌⊎◌, inl, inr, refl, sym, ap, ◌∙◌, subst, append_assoc, append-nil, arith}
use Rattle.std.proofs.lemmas.List.{append_cancel_right, length-map}
use Rattle.std.proofs.Math.Seq.{take-append_seam, drop-append_seam}
use Rattle.agxx_base.specs.declared.vocabulary.SpecialName.{SpecialName}
use Rattle.agxx_base.specs.declared.vocabulary.Sign.TheVariants as sg
use Rattle.cxx_tree.specs.declared.node.Node.{Node}
use Rattle.cxx_tree.specs.declared.node.Placed.{Placed}
use Rattle.cxx_tree.specs.declared.expr.Left.{Left}
use Rattle.cxx_tree.specs.declared.expr.Left.TheVariants as left_of
use Rattle.cxx_tree.specs.declared.expr.Callee.TheVariants as callee_of
use Rattle.cxx_tree.specs.declared.program.TypeName.{TypeName}
use Rattle.cxx_tree.specs.declared.program.TypeName.TheVariants as type_of
use Rattle.cxx_tree.specs.Words as w
use Rattle.cxx_tree.specs.Words.{Word, separated, each_after_comma, in_parentheses}
use Rattle.cxx_tree.specs.ExprTree as e
use Rattle.cxx_tree.specs.ExprTree.{ExprTree, ExprTrees}
use Rattle.cxx_tree.specs.Spelling.{binary_sign, spell_ref, spell_left, spell_callee, spell_type, spell_expr, spell_each}
use Rattle.cxx_tree.specs.Limits.{Grammar, HasAdviceForms, written}
use Rattle.cxx_tree.specs.Fits.{expr_level, operators_in, operators_in_all, FitsLeft, FitsExpr, FitsAll, FitsFull, IsNumberType}
use Rattle.cxx_tree.specs.Blank.{blank_expr}
use Rattle.cxx_tree.proofs.Larger.{expr-larger}
use Rattle.cxx_expr.specs.declared.stop.Stop.{Stop}
use Rattle.cxx_expr.specs.declared.stop.Stop.TheVariants.{Syntax, Deep, Memory}
use Rattle.cxx_expr.specs.Tokens.{Tokens, words_of}
use Rattle.cxx_expr.specs.Outcome.{Outcome, done, failed, and_then}
use Rattle.cxx_expr.specs.Within.{Within, words_left}
use Rattle.cxx_expr.specs.Descent.{expr}
use Rattle.cxx_expr.specs.Full.{most_operators, full_level, full_expr}
use Rattle.cxx_expr.specs.Whole.{IsExpr, IsNone, IsViable, StopsAt, ended, whole}
use Rattle.cxx_expr.proofs.Turns.{expr-is}
use Rattle.cxx_expr.proofs.Good.{Good, head, words-append}
use Rattle.cxx_expr.proofs.Good.{IsViable as IsFront}
use Rattle.cxx_expr.proofs.States.{within, before, before-append, joins, charged, charged-append, free-charged}
use Rattle.cxx_expr.proofs.Names.{free-ref, free-callee}
use Rattle.cxx_expr.proofs.Operators.{charge-binary, charge-unary}
use Rattle.cxx_expr.proofs.Sorts.{default, exprs}
use Rattle.cxx_expr.proofs.Laws.{good_expr}
use Rattle.cxx_expr.proofs.Fronts.{token, front_cons, Ends-nil}
use Rattle.cxx_expr.proofs.Complete.{expr-full}

-- ---- each operator is charged

module _ (special : SpecialName → ℕ) (g : Grammar) (no_advice : HasAdviceForms g → ⊥) where
  charged-left : (depth : ℕ) (l : Left) → FitsLeft g depth l → (n : ℕ) → charged (spell_left special l) n ≡ n
  charged-left depth (left_of.Name r) v n = free-charged (spell_ref r) n (free-ref r)
  charged-left depth (left_of.Member m s) v n = free-charged (spell_callee (callee_of.Member s)) n (free-callee (callee_of.Member s))
  charged-left depth (left_of.Result m) v n = absurd (no_advice v.0)

  charged-parens : (words : List Word) (n m : ℕ) → charged words n ≡ m → charged (in_parentheses words) n ≡ m
  charged-parens words n m h = charged-append words (w.sign sg.CloseParen ∷ []) n ∙ h

  charged-type : (t : TypeName) → IsNumberType t → (n : ℕ) → charged (spell_type special t) n ≡ n
  charged-type (type_of.Num kind) num n = refl
  charged-type type_of.Int num n = refl
  charged-type type_of.Unsigned num n = refl
  charged-type type_of.Void num n = absurd num
  charged-type (type_of.Pointer class) num n = absurd num
  charged-type type_of.Mutex num n = absurd num

  charged-flag : (m : Node) (b : Bool) (n : ℕ) → charged (spell_expr special (e.flag m b)) n ≡ n
  charged-flag m true n = refl
  charged-flag m false n = refl

  add-zero : (a n : ℕ) → a ≡ n → a ≡ 0 + n
  add-zero a n h = omega (arith, h)

  mutual
    pub charged-expr : (t : ExprTree) (depth l : ℕ) → FitsExpr g depth l t → (n : ℕ) → charged (spell_expr special t) n ≡ operators_in t + n
    charged-expr (e.lit m value) depth l v n = omega arith
    charged-expr (e.flag m b) depth l v n = add-zero _ n (charged-flag m b n)
    charged-expr (e.null m) depth l v n = omega arith
    charged-expr (e.this m) depth l v n = omega arith
    charged-expr (e.left part) depth l v n = add-zero _ n (charged-left depth part v n)
    charged-expr (e.unary m o t) depth l v n =
        charge-unary o (charged (spell_expr special t) n) ∙ (let h = charged-expr t depth 0 v n in omega (arith, h))
    charged-expr (e.binary m o a b) depth l v n =
        charged-append (spell_expr special a) (w.sign (binary_sign o.item) ∷ spell_expr special b) n
        ∙ charged-expr a depth _ v.1 (charged (w.sign (binary_sign o.item) ∷ spell_expr special b) n)
        ∙ (let c = charge-binary o.item (charged (spell_expr special b) n) in let h = charged-expr b depth _ v.2 n in omega (arith, c, h))
    charged-expr (e.paren m t) depth l v n = charged-parens (spell_expr special t) n (operators_in t + n) (charged-expr t v.0 expr_level v.2 n)
    charged-expr (e.cast m type_name t) depth l v n =
        charged-append (spell_type special type_name) (in_parentheses (spell_expr special t)) n ∙ charged-type type_name v.0 (charged (in_parentheses (spell_expr special t)) n)
        ∙ charged-parens (spell_expr special t) n (operators_in t + n) (charged-expr t v.1.0 expr_level v.1.2 n)
    charged-expr (e.call (e.calls m c xs)) depth l v n =
        charged-append (spell_callee c) (in_parentheses (separated (spell_each special xs))) n ∙ free-charged (spell_callee c) (charged (in_parentheses (separated (spell_each special xs))) n) (free-callee c)
        ∙ charged-parens (separated (spell_each special xs)) n (operators_in_all xs + n) (charged-all xs v.0 v.2 n)
    charged-expr (e.new m class) depth l v n = omega arith
    charged-expr (e.new_with m class xs) depth l v n = charged-parens (separated (spell_each special xs)) n (operators_in_all xs + n) (charged-all xs v.0 v.2 n)

    charged-all : (xs : ExprTrees) (depth : ℕ) → FitsAll g depth xs → (n : ℕ) → charged (separated (spell_each special xs)) n ≡ operators_in_all xs + n
    charged-all e.no_exprs depth v n = omega arith
    charged-all (e.more_exprs x xs) depth v n =
        charged-append (spell_expr special x) (each_after_comma (spell_each special xs)) n ∙ charged-expr x depth expr_level v.0 (charged (each_after_comma (spell_each special xs)) n)
        ∙ (let h = charged-others xs depth v.1 n in omega (arith, h))

    charged-others : (xs : ExprTrees) (depth : ℕ) → FitsAll g depth xs → (n : ℕ) → charged (each_after_comma (spell_each special xs)) n ≡ operators_in_all xs + n
    charged-others e.no_exprs depth v n = omega arith
    charged-others (e.more_exprs x xs) depth v n =
        charged-append (spell_expr special x) (each_after_comma (spell_each special xs)) n ∙ charged-expr x depth expr_level v.0 (charged (each_after_comma (spell_each special xs)) n)
        ∙ (let h = charged-others xs depth v.1 n in omega (arith, h))

-- ---- a program has no forms of advice

no_forms : HasAdviceForms written → ⊥
no_forms v = v

full-is : (depth : ℕ) (ts : Tokens) → full_expr depth ts ≡ words_left (expr depth (joins ts most_operators))
unfolding full_level
full-is depth ts = ap words_left (sym (expr-is depth (joins ts most_operators)))

abbrev blank_token : Word → Placed Word
blank_token word = token (record { file = 0; line = 0; column = 0 }) word

words-map : (words : List Word) → words_of (map blank_token words) ≡ words
words-map [] = refl
words-map (word ∷ words) = ap (λ q. word ∷ q) (words-map words)

module _ (special : SpecialName → ℕ) where
  -- tokens that spell an expression are read, whole
  read_again : (depth : ℕ) (t : ExprTree) (ts : Tokens) (n : ℕ) → FitsExpr written depth expr_level t → words_of ts ≡ spell_expr special t
      → (t' : ExprTree) × (blank_expr t' ≡ blank_expr t) × (expr depth (joins ts (operators_in t + n)) ≡ done t' (joins [] n))
  read_again depth t ts n v i =
      let r = expr-full special written no_forms depth t ts (joins [] n) v i (Ends-nil expr_level) in
      let c : charged (words_of ts) n ≡ operators_in t + n = ap (λ q. charged q n) i ∙ charged-expr special written no_forms t depth expr_level v n in
      (r.0, r.1, ap (λ q. expr depth (joins q (operators_in t + n))) (sym (append-nil ts)) ∙ ap (λ m. expr depth (joins (ts ++ []) m)) (sym c) ∙ r.2)

  read_full : (depth : ℕ) (t : ExprTree) (ts : Tokens) → FitsFull written most_operators depth expr_level t → words_of ts ≡ spell_expr special t → (t' : ExprTree) × (full_expr depth ts ≡ done t' [])
  read_full depth t ts v i =
      let r = read_again depth t ts (most_operators - operators_in t) v.0 i in
      let c : operators_in t + (most_operators - operators_in t) ≡ most_operators = omega (arith, v.1) in
      (r.0, full-is depth ts ∙ ap (λ m. words_left (expr depth (joins ts m))) (sym c) ∙ ap words_left r.2)

pub whole-none : (depth : ℕ) (ts : Tokens) (why : Stop) (rest : Tokens) → whole depth ts ≡ failed why rest → IsNone depth (words_of ts)
unfolding whole
whole-none depth ts why rest h special t v s =
    let r = read_full special depth t ts v (sym s) in
    let d : done r.0 [] ≡ failed why rest = ap (λ o. and_then o ended) (sym r.1) ∙ h in
    cc

pub spelling-unique : (special : SpecialName → ℕ) (a b : ExprTree) (depth depth' : ℕ) → FitsExpr written depth expr_level a → FitsExpr written depth' expr_level b → spell_expr special a ≡ spell_expr special b → blank_expr a ≡ blank_expr b
spelling-unique special a b depth depth' u v h =
    let ts : Tokens = map blank_token (spell_expr special a) in
    let d : ℕ = depth + depth' in
    let i : words_of ts ≡ spell_expr special a = words-map (spell_expr special a) in
    let r = expr-full special written no_forms d a ts (joins [] 0) (expr-larger written depth d (omega arith) expr_level a u) i (Ends-nil expr_level) in
    let q = expr-full special written no_forms d b ts (joins [] 0) (expr-larger written depth' d (omega arith) expr_level b v) (i ∙ h) (Ends-nil expr_level) in
    let both : done r.0 (joins [] 0) ≡ done q.0 (joins [] 0) = sym r.2 ∙ q.2 in
    let same : r.0 ≡ q.0 = cc in
    sym r.1 ∙ ap blank_expr same ∙ q.1

-- ---- the first word that can't stand there

module _ (special : SpecialName → ℕ) where
  -- no tree goes on with a word at which a parser of any depth stops
  dead : (depth : ℕ) (front : Tokens) (next_token : Placed Word)
      → ((deeper : ℕ) → depth ≤ deeper → (others : Tokens) (t : ExprTree) → expr deeper (before front (joins (next_token ∷ others) (charged (words_of (next_token ∷ others)) 0))) ≡ done t (joins [] 0) → ⊥)
      → IsViable special (words_of front ++ next_token.item ∷ []) → ⊥
  dead depth front next_token never v =
      let deeper : ℕ = depth + v.1 in
      let others : Tokens = map blank_token v.2 in
      let tail : Tokens = next_token ∷ others in
      let spelled : words_of (front ++ tail) ≡ spell_expr special v.0 =
      words-append front tail ∙ ap (λ q. words_of front ++ next_token.item ∷ q) (words-map v.2) ∙ sym (append_assoc (words_of front) (next_token.item ∷ []) v.2) ∙ sym v.4 in
      let r = expr-full special written no_forms deeper v.0 (front ++ tail) (joins [] 0) (expr-larger written v.1 deeper (omega arith) expr_level v.0 v.3) spelled (Ends-nil expr_level) in
      let cut : before front (joins tail (charged (words_of tail) 0)) ≡ before (front ++ tail) (joins [] 0) =
      ap (λ q. before front (joins q (charged (words_of tail) 0))) (sym (append-nil tail)) ∙ sym (before-append front tail (joins [] 0)) in
      never deeper (omega arith) others r.0 (ap (expr deeper) cut ∙ r.2)

  pub record Stops (ts rest : Tokens) : Type 0 where
    pub front : Tokens
    pub parts : ts ≡ front ++ rest
    pub viable : IsViable special (words_of front)
    pub first : (t : Placed Word) (others : Tokens) → rest ≡ t ∷ others → IsViable special (words_of front ++ t.item ∷ []) → ⊥

  abbrev GoodAt : ℕ → Tokens → ℕ → Outcome Within ExprTree → Type 0
  GoodAt depth ts n o = (deeper : ℕ) → depth ≤ deeper → Good within [] (exprs special written depth expr_level) (λ q r. expr deeper q ≡ r) (joins ts n) o

  cut_front : (ts : Tokens) (n : ℕ) (a b : Tokens) (r : Within) → joins ts n ≡ before a r → joins ts n ≡ before b r → a ≡ b
  cut_front ts n a b r h i = append_cancel_right _ _ _ (ap (λ q. q.words) (sym h ∙ i))

  stops_done : (depth : ℕ) (ts : Tokens) (n : ℕ) (rest : Tokens) (t : ExprTree) (r : Within) (ws : Tokens) → r.words ≡ ws → ended t ws ≡ failed Syntax rest → GoodAt depth ts n (done t r) → Stops ts rest
  stops_done depth ts n rest t r [] i h G = cc
  stops_done depth ts n rest t r (x ∷ xs) i h G =
      let same : x ∷ xs ≡ rest = cc in
      let g = G depth (omega arith) in
      record {
        front = g.front;
        parts = ap (λ q. q.words) g.whole ∙ ap (λ q. g.front ++ q) (i ∙ same);
        viable = (t, depth, [], g.valid, g.text ∙ sym (append-nil (words_of g.front)));
        first = λ word others j. dead depth g.front word (λ deeper le more u q.
            let g' = G deeper le in
            let other : Within = joins (word ∷ more) (charged (words_of (word ∷ more)) 0) in
            let begins : Some word ≡ head r.words = ap head (sym j ∙ sym same ∙ sym i) in
            let a : expr deeper (before g'.front other) ≡ done t other = g'.again other begins in
            let b : expr deeper (before g.front other) ≡ expr deeper (before g'.front other) = ap (λ q. expr deeper (before q other)) (cut_front ts n g.front g'.front r g.whole g'.whole) in
            let c : done t other ≡ done u (joins [] 0) = sym a ∙ sym b ∙ q in
            let d : other ≡ joins [] 0 = cc in
            let e : word ∷ more ≡ [] = ap (λ q. q.words) d in
            cc);
      }

  as_viable : (front : List Word) (depth : ℕ) → (front ≡ []) ⊎ IsFront (exprs special written depth expr_level) front → IsViable special front
  as_viable front depth (inl i) = (default, 0, spell_expr special default, tt, ap (λ q. q ++ spell_expr special default) (sym i))
  as_viable front depth (inr v) = (v.0, v.2.0, v.1, v.2.1, v.3)

  stops_failed : (depth : ℕ) (ts : Tokens) (n : ℕ) (rest : Tokens) (r : Within) → r.words ≡ rest → GoodAt depth ts n (failed Syntax r) → Stops ts rest
  stops_failed depth ts n rest r i G =
      let g = G depth (omega arith) in
      record {
        front = g.front;
        parts = ap (λ q. q.words) g.whole ∙ ap (λ q. g.front ++ q) i;
        viable = as_viable (words_of g.front) depth g.viable;
        first = λ word others j. dead depth g.front word (λ deeper le more u q.
            let g' = G deeper le in
            let other : Within = joins (word ∷ more) (charged (words_of (word ∷ more)) 0) in
            let begins : Some word ≡ head r.words = ap head (sym j ∙ sym i) in
            let a : expr deeper (before g'.front other) ≡ failed Syntax other = g'.again other begins in
            let b : expr deeper (before g.front other) ≡ expr deeper (before g'.front other) = ap (λ q. expr deeper (before q other)) (cut_front ts n g.front g'.front r g.whole g'.whole) in
            let c : failed Syntax other ≡ done u (joins [] 0) = sym a ∙ sym b ∙ q in
            cc);
      }

  stops_by : (depth : ℕ) (ts : Tokens) (n : ℕ) (rest : Tokens) (o : Outcome Within ExprTree) → and_then (words_left o) ended ≡ failed Syntax rest → GoodAt depth ts n o → Stops ts rest
  stops_by depth ts n rest (done t r) h G = stops_done depth ts n rest t r r.words refl h G
  stops_by depth ts n rest (failed Syntax r) h G = stops_failed depth ts n rest r (let i : r.words ≡ rest = cc in i) G
  stops_by depth ts n rest (failed Deep r) h G = cc
  stops_by depth ts n rest (failed Memory r) h G = cc

  whole_by : (depth : ℕ) (ts rest : Tokens) → whole depth ts ≡ failed Syntax rest → Stops ts rest
  unfolding whole
  whole_by depth ts rest h =
      stops_by depth ts most_operators rest (expr depth (joins ts most_operators)) (ap (λ o. and_then o ended) (sym (full-is depth ts)) ∙ h) (λ deeper le. good_expr special written depth deeper le (joins ts most_operators))

  length-words : (ts : Tokens) → length (words_of ts) ≡ length ts
  length-words ts = length-map ts (λ t. t.item)

  words_parts : (ts rest : Tokens) (s : Stops ts rest) → words_of ts ≡ words_of s.front ++ words_of rest
  words_parts ts rest s = ap words_of s.parts ∙ words-append s.front rest

  at_front : (ts rest : Tokens) (at : ℕ) (s : Stops ts rest) → at + length rest ≡ length ts → at ≡ length (words_of s.front)
  at_front ts rest at s h = omega (arith, h, length-words s.front, ap length s.parts, length-append s.front rest)

  taken : (ts rest : Tokens) (at : ℕ) (s : Stops ts rest) → at + length rest ≡ length ts → take at (words_of ts) ≡ words_of s.front
  taken ts rest at s h =
      ap (λ q. take at q) (words_parts ts rest s) ∙ ap (λ n. take n (words_of s.front ++ words_of rest)) (at_front ts rest at s h) ∙ take-append_seam (words_of s.front) (words_of rest)

  dropped : (ts rest : Tokens) (at : ℕ) (s : Stops ts rest) → at + length rest ≡ length ts → drop at (words_of ts) ≡ words_of rest
  dropped ts rest at s h =
      ap (λ q. drop at q) (words_parts ts rest s) ∙ ap (λ n. drop n (words_of s.front ++ words_of rest)) (at_front ts rest at s h) ∙ drop-append_seam (words_of s.front) (words_of rest)

  stops_first : (ts rest : Tokens) (at : ℕ) (s : Stops ts rest) → at + length rest ≡ length ts → (word : Word) (others : List Word) → drop at (words_of ts) ≡ word ∷ others → IsViable special (take at (words_of ts) ++ word ∷ []) → ⊥
  stops_first ts rest at s h word others i v =
      let c = front_cons word others rest (sym (dropped ts rest at s h) ∙ i) in
      s.first (token c.0 word) c.1 c.2 (subst (λ q. IsViable special (q ++ word ∷ [])) (taken ts rest at s h) v)

pub whole-stops : (depth : ℕ) (ts rest : Tokens) (at : ℕ) → whole depth ts ≡ failed Syntax rest → at + length rest ≡ length ts → StopsAt (words_of ts) at
whole-stops depth ts rest at i h = record {
  viable = λ special. let s = whole_by special depth ts rest i in subst (IsViable special) (sym (taken special ts rest at s h)) s.viable;
  first = λ special word others j v. stops_first special ts rest at (whole_by special depth ts rest i) h word others j v;
}

-- ---- an expression that is all the words

any_names : SpecialName → ℕ
any_names s = 0

done_by : (depth : ℕ) (ts : Tokens) (t : ExprTree) (r : Within) → r.words ≡ [] → ((special : SpecialName → ℕ) → Good within [] (exprs special written depth expr_level) (λ q o. expr depth q ≡ o) (joins ts most_operators) (done t r)) → IsExpr depth t (words_of ts)
done_by depth ts t r i G =
    let g = G any_names in
    let few : most_operators ≡ operators_in t + r.operators =
    ap (λ q. q.operators) g.whole ∙ ap (λ q. charged q r.operators) (sym g.text) ∙ charged-expr any_names written no_forms t depth expr_level g.valid r.operators in
    ((g.valid, omega (arith, few)), λ special. let s = G special in s.text ∙ ap words_of (sym (ap (λ q. q.words) s.whole ∙ ap (λ q. s.front ++ q) i ∙ append-nil s.front)))

pub whole-done : (depth : ℕ) (ts : Tokens) (t : ExprTree) (rest : Tokens) → whole depth ts ≡ done t rest → IsExpr depth t (words_of ts)
unfolding whole
whole-done depth ts t rest h =
    by_outcome (expr depth (joins ts most_operators)) (ap (λ o. and_then o ended) (sym (full-is depth ts)) ∙ h) (λ special. good_expr special written depth depth (omega arith) (joins ts most_operators))
  where
    by_words : (u : ExprTree) (r : Within) (ws : Tokens) → r.words ≡ ws → ended u ws ≡ done t rest → ((special : SpecialName → ℕ) → Good within [] (exprs special written depth expr_level) (λ q o. expr depth q ≡ o) (joins ts most_operators) (done u r)) → IsExpr depth t (words_of ts)
    by_words u r [] i j G = let s : u ≡ t = cc in subst (λ q. IsExpr depth q (words_of ts)) s (done_by depth ts u r i G)
    by_words u r (x ∷ xs) i j G = cc

    by_outcome : (o : Outcome Within ExprTree) → and_then (words_left o) ended ≡ done t rest → ((special : SpecialName → ℕ) → Good within [] (exprs special written depth expr_level) (λ q o. expr depth q ≡ o) (joins ts most_operators) o) → IsExpr depth t (words_of ts)
    by_outcome (done u r) j G = by_words u r r.words refl j G
    by_outcome (failed why r) j G = cc
