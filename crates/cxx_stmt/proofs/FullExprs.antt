-- The spelling of each full expression and of arguments is read again, and what comes next at an expression.
use Rattle.std.proofs.Common.{◌≡◌, ℕ, Bool, true, false, List, [], ◌∷◌, ◌++◌, map, None, refl, sym, ap, ◌∙◌, subst, append_assoc, arith}
use Rattle.agxx_base.specs.declared.place.Place.{Place}
use Rattle.agxx_base.specs.declared.vocabulary.Sign.{Sign}
use Rattle.agxx_base.specs.declared.vocabulary.Sign.TheVariants as sg
use Rattle.agxx_base.specs.declared.vocabulary.SpecialName.{SpecialName}
use Rattle.cxx_tree.specs.declared.node.Node.{Node}
use Rattle.cxx_tree.specs.declared.node.Placed.{Placed}
use Rattle.agxx_base.specs.declared.ids.NameId.{NameId}
use Rattle.cxx_tree.specs.declared.operator.BinOp.{BinOp}
use Rattle.cxx_tree.specs.declared.operator.BinOp.TheVariants as op
use Rattle.cxx_tree.specs.declared.operator.UnOp.TheVariants as un
use Rattle.cxx_tree.specs.declared.expr.Ref.{Ref}
use Rattle.cxx_tree.specs.declared.expr.Base.{Base}
use Rattle.cxx_tree.specs.declared.expr.Base.TheVariants as base_of
use Rattle.cxx_tree.specs.declared.expr.Left.{Left}
use Rattle.cxx_tree.specs.declared.expr.Left.TheVariants as left_of
use Rattle.cxx_tree.specs.declared.expr.Callee.{Callee}
use Rattle.cxx_tree.specs.declared.expr.Callee.TheVariants as callee_of
use Rattle.cxx_tree.specs.declared.program.TypeName.TheVariants as type_of
use Rattle.cxx_tree.specs.Words as w
use Rattle.cxx_tree.specs.Words.{Word, separated, each_after_comma, in_parentheses}
use Rattle.cxx_tree.specs.ExprTree as e
use Rattle.cxx_tree.specs.ExprTree.{ExprTree, ExprTrees, listed_exprs}
use Rattle.cxx_tree.specs.Spelling.{binary_sign, spell_name, spell_ref, spell_callee, spell_left, spell_type, spell_expr, spell_each, spell_arguments}
use Rattle.cxx_tree.specs.Limits.{Grammar, HasAdviceForms, Opens, Every}
use Rattle.cxx_tree.specs.Fits.{level_of, expr_level, sum_level, FitsExpr, FitsFull, FitsEach, FitsArguments}
use Rattle.cxx_tree.specs.Blank.{blank_expr, blank_exprs}
use Rattle.cxx_expr.specs.Tokens.{Tokens, words_of, is_sign, sees}
use Rattle.cxx_expr.specs.Outcome.{done, Parse}
use Rattle.cxx_expr.specs.Operators.{binary_of}
use Rattle.cxx_expr.specs.Signs.{same_sign}
use Rattle.cxx_expr.specs.Full.{full_level}
use Rattle.cxx_expr.proofs.Signs.{same_sign-true}
use Rattle.cxx_expr.proofs.Operators.{binary_of-sign, operator-above}
use Rattle.cxx_expr.proofs.Fronts.{token, Ends, Ends-close, Ends-comma}
use Rattle.cxx_expr.proofs.Names.{member_of}
use Rattle.cxx_expr.proofs.FullLaws.{full-full}
use Rattle.cxx_stmt.specs.Parts.{others, any, expressions, arguments, no_parts}
use Rattle.cxx_stmt.proofs.FullParts.{laid, laid-rest, laid-words, begins, begins-append, IsRead, read-as, read-in_parens, read-others, read-any}
use Rattle.cxx_stmt.proofs.FullTypes.{is_first, first-not-close_paren, first-type}

-- ---- what may follow

pub Ends-semicolon : (l : ℕ) (at : Place) (ts : Tokens) → Ends l (token at (w.sign sg.Semicolon) ∷ ts)
Ends-semicolon l at ts = record { closed = refl; dot = refl; arrow = refl; none = λ n h. refl }

pub Ends-shift : (at : Place) (ts : Tokens) → Ends sum_level (token at (w.sign sg.ShiftLeft) ∷ ts)
Ends-shift at ts =
    let o : Placed BinOp = record { at = at; item = op.ShiftLeft } in
    record { closed = refl; dot = refl; arrow = refl; none = λ n h. operator-above n o ts (λ same. let s : level_of op.ShiftLeft ≡ n = same in absurd (omega (arith, s, h))) }

-- ---- how an expression begins

first-ref-by : (global : Bool) (n : Node) (x : Placed NameId) → begins is_first (spell_ref (record { node = n; global = global; name = x })) ≡ true
first-ref-by true n x = refl
first-ref-by false n x = refl

pub first-ref : (r : Ref) → begins is_first (spell_ref r) ≡ true
first-ref r = first-ref-by r.global r.node r.name

first-member : (base : Base) (x : Placed NameId) → begins is_first (spell_callee (member_of base x)) ≡ true
first-member base_of.This x = refl
first-member (base_of.Dot r) x = begins-append is_first (spell_ref r ++ w.sign sg.Dot ∷ []) (spell_name x) (begins-append is_first (spell_ref r) (w.sign sg.Dot ∷ []) (first-ref r))
first-member (base_of.Arrow r) x = begins-append is_first (spell_ref r ++ w.sign sg.Arrow ∷ []) (spell_name x) (begins-append is_first (spell_ref r) (w.sign sg.Arrow ∷ []) (first-ref r))

pub first-callee : (c : Callee) → begins is_first (spell_callee c) ≡ true
first-callee (callee_of.Bare r) = first-ref r
first-callee (callee_of.Member s) = first-member s.base s.name

-- what the second word is, if the first is a name
abbrev pub behind_name : (Word → Bool) → List Word → Bool
behind_name is (w.name n ∷ word ∷ words) = is word
behind_name is _ = false

pub behind-sees : (s : Sign) (n : ℕ) (ts : Tokens) → behind_name (is_sign s) (w.name n ∷ words_of ts) ≡ false → sees s ts ≡ false
behind-sees s n [] h = refl
behind-sees s n (t ∷ ts) h = h

behind-ref : (is : Word → Bool) (global : Bool) (n : Node) (x : Placed NameId) (word : Word) (words : List Word) → is word ≡ false
    → behind_name is (spell_ref (record { node = n; global = global; name = x }) ++ word ∷ words) ≡ false
behind-ref is true n x word words h = refl
behind-ref is false n x word words h = h

behind-based : (is : Word → Bool) (global : Bool) (n : Node) (x y : Placed NameId) (word : Word) (words : List Word) → is word ≡ false
    → behind_name is (((spell_ref (record { node = n; global = global; name = x }) ++ word ∷ []) ++ spell_name y) ++ words) ≡ false
behind-based is true n x y word words h = refl
behind-based is false n x y word words h = h

pub behind-callee : (is : Word → Bool) → is (w.sign sg.Dot) ≡ false → is (w.sign sg.Arrow) ≡ false → (c : Callee) (word : Word) (words : List Word) → is word ≡ false
    → behind_name is (spell_callee c ++ word ∷ words) ≡ false
behind-callee is dot arrow (callee_of.Bare r) word words h = behind-ref is r.global r.node r.name word words h
behind-callee is dot arrow (callee_of.Member s) word words h = by_base s.base s.name
  where
    by_base : (base : Base) (x : Placed NameId) → behind_name is (spell_callee (member_of base x) ++ word ∷ words) ≡ false
    by_base base_of.This x = refl
    by_base (base_of.Dot r) x = behind-based is r.global r.node r.name x (w.sign sg.Dot) (word ∷ words) dot
    by_base (base_of.Arrow r) x = behind-based is r.global r.node r.name x (w.sign sg.Arrow) (word ∷ words) arrow

same_sign-other : (s : Sign) → binary_of s ≡ None → (o : BinOp) (b : Bool) → same_sign (binary_sign o) s ≡ b → b ≡ false
same_sign-other s none o true h = let i : binary_sign o ≡ s = same_sign-true (binary_sign o) s h in let j = binary_of-sign o in let k = ap binary_of i in cc
same_sign-other s none o false h = refl

operator-not : (s : Sign) → binary_of s ≡ None → (o : BinOp) → is_sign s (w.sign (binary_sign o)) ≡ false
operator-not s none o = same_sign-other s none o (same_sign (binary_sign o) s) refl

abbrev is_colons : Word → Bool
is_colons = is_sign sg.ColonColon

module _ (special : SpecialName → ℕ) where
  pub first-left : (l : Left) → begins is_first (spell_left special l) ≡ true
  first-left (left_of.Name r) = first-ref r
  first-left (left_of.Member n s) = first-callee (callee_of.Member s)
  first-left (left_of.Result n) = refl

  pub first-expr : (t : ExprTree) → begins is_first (spell_expr special t) ≡ true
  first-expr (e.lit n value) = refl
  first-expr (e.flag n true) = refl
  first-expr (e.flag n false) = refl
  first-expr (e.null n) = refl
  first-expr (e.this n) = refl
  first-expr (e.left l) = first-left l
  first-expr (e.unary n un.Negate operand) = refl
  first-expr (e.unary n un.Not operand) = refl
  first-expr (e.unary n un.Complement operand) = refl
  first-expr (e.unary n un.AddressOf operand) = refl
  first-expr (e.binary n o a b) = begins-append is_first (spell_expr special a) (w.sign (binary_sign o.item) ∷ spell_expr special b) (first-expr a)
  first-expr (e.paren n inner) = refl
  first-expr (e.cast n t operand) = begins-append is_first (spell_type special t) _ (first-type special t)
  first-expr (e.call (e.calls n callee xs)) = begins-append is_first (spell_callee callee) (spell_arguments special xs) (first-callee callee)
  first-expr (e.new n class) = refl
  first-expr (e.new_with n class xs) = refl

module _ (special : SpecialName → ℕ) (g : Grammar) where
  -- a name at the beginning of an expression is not followed by `::`
  pub behind-expr : (depth l : ℕ) (t : ExprTree) (word : Word) (words : List Word) → FitsExpr g depth l t → is_sign sg.ColonColon word ≡ false
      → behind_name (is_sign sg.ColonColon) (spell_expr special t ++ word ∷ words) ≡ false
  behind-expr depth l (e.lit n value) word words v h = refl
  behind-expr depth l (e.flag n true) word words v h = refl
  behind-expr depth l (e.flag n false) word words v h = refl
  behind-expr depth l (e.null n) word words v h = refl
  behind-expr depth l (e.this n) word words v h = refl
  behind-expr depth l (e.left (left_of.Name r)) word words v h = behind-callee is_colons refl refl (callee_of.Bare r) word words h
  behind-expr depth l (e.left (left_of.Member n s)) word words v h = behind-callee is_colons refl refl (callee_of.Member s) word words h
  behind-expr depth l (e.left (left_of.Result n)) word words v h = refl
  behind-expr depth l (e.unary n o operand) word words v h = refl
  behind-expr depth l (e.binary n o a b) word words v h =
      ap (behind_name is_colons) (append_assoc (spell_expr special a) (w.sign (binary_sign o.item) ∷ spell_expr special b) (word ∷ words))
      ∙ behind-expr depth (level_of o.item) a (w.sign (binary_sign o.item)) (spell_expr special b ++ word ∷ words) v.1 (operator-not sg.ColonColon refl o.item)
  behind-expr depth l (e.paren n inner) word words v h = refl
  behind-expr depth l (e.cast n (type_of.Num kind) operand) word words v h = refl
  behind-expr depth l (e.cast n type_of.Int operand) word words v h = refl
  behind-expr depth l (e.cast n type_of.Unsigned operand) word words v h = refl
  behind-expr depth l (e.cast n type_of.Void operand) word words v h = refl
  behind-expr depth l (e.cast n (type_of.Pointer class) operand) word words v h = refl
  behind-expr depth l (e.cast n type_of.Mutex operand) word words v h = absurd v.0
  behind-expr depth l (e.call (e.calls n callee xs)) word words v h =
      ap (behind_name is_colons) (append_assoc (spell_callee callee) (spell_arguments special xs) (word ∷ words)) ∙ behind-callee is_colons refl refl callee (w.sign sg.OpenParen) _ refl
  behind-expr depth l (e.new n class) word words v h = refl
  behind-expr depth l (e.new_with n class xs) word words v h = refl

-- ---- several expressions, as a list

abbrev pub exprs_in : ExprTrees → List ExprTree
exprs_in e.no_exprs = []
exprs_in (e.more_exprs first rest) = first ∷ exprs_in rest

spell_each-in : (special : SpecialName → ℕ) (xs : ExprTrees) → spell_each special xs ≡ map (spell_expr special) (exprs_in xs)
spell_each-in special e.no_exprs = refl
spell_each-in special (e.more_exprs first rest) = ap (λ q. spell_expr special first ∷ q) (spell_each-in special rest)

blank-listed : (ys : List ExprTree) → blank_exprs (listed_exprs ys) ≡ listed_exprs (map blank_expr ys)
blank-listed [] = refl
blank-listed (y ∷ ys) = ap (e.more_exprs (blank_expr y)) (blank-listed ys)

blank-in : (xs : ExprTrees) → listed_exprs (map blank_expr (exprs_in xs)) ≡ blank_exprs xs
blank-in e.no_exprs = refl
blank-in (e.more_exprs first rest) = ap (e.more_exprs (blank_expr first)) (blank-in rest)

-- arguments as the tree holds them
abbrev pub blank_listed : List ExprTree → ExprTrees
blank_listed ys = blank_exprs (listed_exprs ys)

blank-same : (xs : ExprTrees) (ys : List ExprTree) → map blank_expr ys ≡ map blank_expr (exprs_in xs) → blank_listed ys ≡ blank_exprs xs
blank-same xs ys h = blank-listed ys ∙ ap listed_exprs h ∙ blank-in xs

each-every : (g : Grammar) (most depth : ℕ) (xs : ExprTrees) → FitsEach g most depth xs → Every (FitsFull g most depth expr_level) (exprs_in xs)
each-every g most depth e.no_exprs v = tt
each-every g most depth (e.more_exprs first rest) v = (v.0, each-every g most depth rest v.1)

-- a pair of parentheses with nothing in it
pub read-no_parts : (depth : ℕ) (Holds : ℕ → Type 0) (rest : Tokens) → Opens depth Holds → IsRead (λ (u : Unit {0}). u) (no_parts depth) (in_parentheses []) tt rest
unfolding no_parts
read-no_parts depth Holds rest v = read-in_parens (λ (u : Unit {0}). u) depth (λ below. done tt) Holds [] tt rest v (λ below h at places. (tt, refl, refl))

module _ (special : SpecialName → ℕ) (g : Grammar) (no_advice : HasAdviceForms g → ⊥) (most depth : ℕ) where
  -- a full expression, before anything that doesn't go on with it
  pub read-full : (l : ℕ) (t : ExprTree) (rest : Tokens) → FitsFull g most depth l t → Ends l rest → IsRead blank_expr (full_level most depth l) (spell_expr special t) (blank_expr t) rest
  read-full l t rest v ends places =
      let words : List Word = spell_expr special t in
      let r = full-full special g no_advice most depth l t (laid words places []) rest v (laid-words words places) ends in
      (r.0, r.1, ap (full_level most depth l) (laid-rest words places rest) ∙ r.2)

  abbrev AreRead : Parse Tokens (List ExprTree) → (List (List Word) → List Word) → ExprTrees → Tokens → Type 0
  AreRead parse joined xs rest = IsRead blank_listed parse (joined (spell_each special xs)) (blank_exprs xs) rest

  in_list : (parse : Parse Tokens (List ExprTree)) (joined : List (List Word) → List Word) (xs : ExprTrees) (rest : Tokens)
      → IsRead (map blank_expr) parse (joined (map (spell_expr special) (exprs_in xs))) (map blank_expr (exprs_in xs)) rest → AreRead parse joined xs rest
  in_list parse joined xs rest h =
      let r = read-as (map blank_expr) blank_listed parse (joined (map (spell_expr special) (exprs_in xs))) (map blank_expr (exprs_in xs)) (blank_exprs xs) rest h (blank-same xs) in
      subst (λ words. IsRead blank_listed parse words (blank_exprs xs) rest) (ap joined (sym (spell_each-in special xs))) r

  -- more expressions behind one
  pub read-more_exprs : (xs : ExprTrees) (rest : Tokens) → FitsEach g most depth xs → Ends expr_level rest → sees sg.Comma rest ≡ false
      → IsRead blank_listed (others (expressions most depth)) (each_after_comma (spell_each special xs)) (blank_exprs xs) rest
  unfolding expressions
  read-more_exprs xs rest v ends last =
      in_list (others (expressions most depth)) each_after_comma xs rest
      (read-others (spell_expr special) (FitsFull g most depth expr_level) blank_expr (full_level most depth expr_level) (Ends expr_level) (λ t rest. read-full expr_level t rest)
      (Ends-comma expr_level) rest ends last (exprs_in xs) (each-every g most depth xs v))

  -- none or more, before a closing parenthesis
  pub read-exprs : (xs : ExprTrees) (at : Place) (rest : Tokens) → FitsEach g most depth xs
      → IsRead blank_listed (any (full_level most depth expr_level)) (separated (spell_each special xs)) (blank_exprs xs) (token at (w.sign sg.CloseParen) ∷ rest)
  read-exprs xs at rest v =
      in_list (any (full_level most depth expr_level)) separated xs (token at (w.sign sg.CloseParen) ∷ rest)
      (read-any (spell_expr special) (FitsFull g most depth expr_level) blank_expr (full_level most depth expr_level) (Ends expr_level) (λ t rest. read-full expr_level t rest)
      (Ends-comma expr_level) (Ends-close expr_level) is_first first-not-close_paren (λ t v. first-expr special t) (exprs_in xs) at rest (each-every g most depth xs v))

-- arguments with their parentheses
pub read-arguments : (special : SpecialName → ℕ) (g : Grammar) → (HasAdviceForms g → ⊥) → (most depth : ℕ) (xs : ExprTrees) (rest : Tokens) → FitsArguments g most depth xs
    → IsRead blank_listed (arguments most depth) (spell_arguments special xs) (blank_exprs xs) rest
unfolding arguments expressions
read-arguments special g no_advice most depth xs rest v =
    read-in_parens blank_listed depth (λ below. any (full_level most below expr_level)) _ _ (blank_exprs xs) rest v (λ below u at. read-exprs special g no_advice most below xs at rest u)
