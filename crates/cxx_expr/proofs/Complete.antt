-- The spelling of each expression is read again, before anything that doesn't go on with it.
use Rattle.std.proofs.Common.{◌≡◌, ℕ, zero, suc, ◌-◌, ◌≤◌, ◌<◌, Bool, true, false, List, [], ◌∷◌, ◌++◌, length, length-append, Option, None, ◌⊎◌, inl, inr, refl, sym, ap, ◌∙◌, subst, append_assoc, append-nil, arith}
use Rattle.std.proofs.lemmas.Bool.Decides.{eqb_tells}
use Rattle.agxx_base.specs.declared.place.Place.{Place}
use Rattle.agxx_base.specs.declared.ids.NameId.{NameId}
use Rattle.agxx_base.specs.declared.vocabulary.Keyword.{Keyword}
use Rattle.agxx_base.specs.declared.vocabulary.Keyword.TheVariants as k
use Rattle.agxx_base.specs.declared.vocabulary.Sign.TheVariants as sg
use Rattle.agxx_base.specs.declared.vocabulary.SpecialName.{SpecialName}
use Rattle.cxx_tree.specs.declared.node.Node.{Node}
use Rattle.cxx_tree.specs.declared.node.Placed.{Placed}
use Rattle.cxx_tree.specs.declared.operator.BinOp.{BinOp}
use Rattle.cxx_tree.specs.declared.operator.BinOp.TheVariants as op
use Rattle.cxx_tree.specs.declared.operator.UnOp.{UnOp}
use Rattle.cxx_tree.specs.declared.expr.Ref.{Ref}
use Rattle.cxx_tree.specs.declared.expr.Left.{Left}
use Rattle.cxx_tree.specs.declared.expr.Left.TheVariants as left_of
use Rattle.cxx_tree.specs.declared.expr.Base.{Base}
use Rattle.cxx_tree.specs.declared.expr.Base.TheVariants as base_of
use Rattle.cxx_tree.specs.declared.expr.Callee.{Callee}
use Rattle.cxx_tree.specs.declared.expr.Callee.TheVariants as callee_of
use Rattle.cxx_tree.specs.declared.program.TypeName.{TypeName}
use Rattle.cxx_tree.specs.declared.program.TypeName.TheVariants as type_of
use Rattle.cxx_tree.specs.Words as w
use Rattle.cxx_tree.specs.Words.{Word, separated, in_parentheses}
use Rattle.cxx_tree.specs.ExprTree as e
use Rattle.cxx_tree.specs.ExprTree.{ExprTree, ExprTrees, listed_exprs}
use Rattle.cxx_tree.specs.Spelling.{binary_sign, unary_sign, spell_name, spell_ref, spell_callee, spell_left, spell_type, spell_expr, spell_each}
use Rattle.cxx_tree.specs.Limits.{Grammar, HasAdviceForms, Opens}
use Rattle.cxx_tree.specs.Fits.{level_of, expr_level, FitsLeft, FitsExpr, FitsAll, IsNumberType}
use Rattle.cxx_tree.specs.Blank.{no_node, blank_placed, blank_left, blank_callee, blank_expr, blank_exprs}
use Rattle.cxx_expr.specs.Tokens.{Tokens, words_of, sees}
use Rattle.cxx_expr.specs.Outcome.{done, Parse, and_then}
use Rattle.cxx_expr.specs.Lefts.{node_at, name, selected, target, left_by}
use Rattle.cxx_expr.specs.Within.{Within, with_operators, operator_taken}
use Rattle.cxx_expr.specs.Descent.{joined, chain, enclosed, called, named, grouped, converted, own, created_with, created, primary, operated, unary, level, expr, inner_at}
use Rattle.cxx_expr.proofs.Turns.{chain-stop, chain-turn, expr-is, unary-primary, created_with-arguments}
use Rattle.cxx_expr.proofs.States.{before, before-append, joins, charged, IsFree, free-charged}
use Rattle.cxx_expr.proofs.Names.{member_of, free-callee}
use Rattle.cxx_expr.proofs.Operators.{binary_token, charge-binary, operator-again, operator-above}
use Rattle.cxx_expr.proofs.Laws.{unary-again}
use Rattle.cxx_expr.proofs.Fronts.{token, front_cons, front_append, front_one, front_two, Ends, Ends-below, sees_in}
use Rattle.cxx_expr.proofs.CompleteNames.{read_name, target-bare, target-dot, target-arrow}
use Rattle.cxx_expr.proofs.CompleteParts.{opens, IsReadAs, IsFull, IsFullInside, enclosed-full, arguments-full, called-full}

-- ---- what begins with a name or with `this`

module _ (inner : Option (Parse Within ExprTree)) where
  named-by : (at : Place) (front : Tokens) (s : Within) (c : Callee) → IsFree (words_of front) → target at (front ++ s.words) ≡ done c s.words → named inner at (before front s) ≡ called inner (node_at at) c s
  unfolding named
  named-by at front s c f h =
      ap (λ o. and_then (with_operators (charged (words_of front) s.operators) o) (called inner (node_at at))) h
      ∙ ap (λ n. called inner (node_at at) c (joins s.words n)) (free-charged (words_of front) s.operators f)

  abbrev Begins : Tokens → Type 0
  Begins front = (at : Place) × ((s : Within) → unary inner (before front s) ≡ named inner at (before front s))

  begins-by : (at : Place) (ts : Tokens) (x : NameId) (s : Within) → unary inner (before (token at (w.name x.0) ∷ ts) s) ≡ named inner at (before (token at (w.name x.0) ∷ ts) s)
  unfolding primary
  begins-by at ts x s = unary-primary inner (before (token at (w.name x.0) ∷ ts) s) refl

  begins-colons : (at : Place) (ts : Tokens) (s : Within) → unary inner (before (token at (w.sign sg.ColonColon) ∷ ts) s) ≡ named inner at (before (token at (w.sign sg.ColonColon) ∷ ts) s)
  unfolding primary
  begins-colons at ts s = unary-primary inner (before (token at (w.sign sg.ColonColon) ∷ ts) s) refl

  ref-begins-by : (global : Bool) (n : Node) (x : Placed NameId) (more : List Word) (front : Tokens) → words_of front ≡ spell_ref (record { node = n; global = global; name = x }) ++ more → Begins front
  ref-begins-by true n x more front i =
      let h = front_cons (w.sign sg.ColonColon) (w.name x.item.0 ∷ more) front i in
      subst Begins (sym h.2) (h.0, λ s. begins-colons h.0 h.1 s)
  ref-begins-by false n x more front i =
      let h = front_cons (w.name x.item.0) more front i in
      subst Begins (sym h.2) (h.0, λ s. begins-by h.0 h.1 x.item s)

  ref-begins : (r : Ref) (more : List Word) (front : Tokens) → words_of front ≡ spell_ref r ++ more → Begins front
  ref-begins r more front i = ref-begins-by r.global r.node r.name more front i

  own-begins : (p q t : Place) (x : Placed NameId) (s : Within)
      → unary inner (before (token p (w.keyword k.This) ∷ token q (w.sign sg.Arrow) ∷ token t (w.name x.item.0) ∷ []) s) ≡ called inner (node_at p) (member_of base_of.This (read_name t x)) s
  unfolding primary own selected name
  own-begins p q t x s = unary-primary inner (before (token p (w.keyword k.This) ∷ token q (w.sign sg.Arrow) ∷ token t (w.name x.item.0) ∷ []) s) refl

  abbrev IsBegun : Callee → Tokens → Within → Type 0
  IsBegun c front s = (at : Place) × (c' : Callee) × (blank_callee c' ≡ blank_callee c) × (unary inner (before front s) ≡ called inner (node_at at) c' s)

  member-full : (base : Base) (x : Placed NameId) (front : Tokens) (s : Within) → words_of front ≡ spell_callee (member_of base x) → IsBegun (member_of base x) front s
  member-full base_of.This x front s i =
      let h = front_cons (w.keyword k.This) (w.sign sg.Arrow ∷ w.name x.item.0 ∷ []) front i in
      let t = front_two (w.sign sg.Arrow) (w.name x.item.0) h.1 h.3 in
      subst (λ q. IsBegun (member_of base_of.This x) q s) (sym (h.2 ∙ ap (λ q. token h.0 (w.keyword k.This) ∷ q) t.2))
      (h.0, member_of base_of.This (read_name t.1 x), refl, own-begins h.0 t.0 t.1 x s)
  member-full (base_of.Dot r) x front s i =
      let b = ref-begins r (w.sign sg.Dot ∷ spell_name x) front (i ∙ append_assoc (spell_ref r) (w.sign sg.Dot ∷ []) (spell_name x)) in
      let h = target-dot r x front i b.0 s.words in
      (b.0, h.0, h.1, b.1 s ∙ named-by b.0 front s h.0 (subst IsFree (sym i) (free-callee (member_of (base_of.Dot r) x))) h.2)
  member-full (base_of.Arrow r) x front s i =
      let b = ref-begins r (w.sign sg.Arrow ∷ spell_name x) front (i ∙ append_assoc (spell_ref r) (w.sign sg.Arrow ∷ []) (spell_name x)) in
      let h = target-arrow r x front i b.0 s.words in
      (b.0, h.0, h.1, b.1 s ∙ named-by b.0 front s h.0 (subst IsFree (sym i) (free-callee (member_of (base_of.Arrow r) x))) h.2)

  callee-full : (c : Callee) (front : Tokens) (s : Within) → words_of front ≡ spell_callee c → sees sg.Dot s.words ≡ false → sees sg.Arrow s.words ≡ false → IsBegun c front s
  callee-full (callee_of.Bare r) front s i d a =
      let b = ref-begins r [] front (i ∙ sym (append-nil (spell_ref r))) in
      let h = target-bare r front i b.0 s.words d a in
      (b.0, h.0, h.1, b.1 s ∙ named-by b.0 front s h.0 (subst IsFree (sym i) (free-callee (callee_of.Bare r))) h.2)
  callee-full (callee_of.Member m) front s i d a = member-full m.base m.name front s i

  called-left : (n : Node) (c : Callee) (s : Within) → sees sg.OpenParen s.words ≡ false → called inner n c s ≡ done (e.left (left_by n c)) s
  unfolding called
  called-left n c s h = rw h refl

  -- ---- what begins with another word

  unary-number : (at : Place) (bits : ℕ) (kind : _) (s : Within) → unary inner (before (token at (w.number bits kind) ∷ []) s) ≡ done (e.lit (node_at at) (record { bits = bits; kind = kind })) s
  unfolding primary
  unary-number at bits kind s = unary-primary inner (before (token at (w.number bits kind) ∷ []) s) refl

  unary-true : (at : Place) (s : Within) → unary inner (before (token at (w.keyword k.True) ∷ []) s) ≡ done (e.flag (node_at at) true) s
  unfolding primary
  unary-true at s = unary-primary inner (before (token at (w.keyword k.True) ∷ []) s) refl

  unary-false : (at : Place) (s : Within) → unary inner (before (token at (w.keyword k.False) ∷ []) s) ≡ done (e.flag (node_at at) false) s
  unfolding primary
  unary-false at s = unary-primary inner (before (token at (w.keyword k.False) ∷ []) s) refl

  unary-null : (at : Place) (s : Within) → unary inner (before (token at (w.keyword k.Nullptr) ∷ []) s) ≡ done (e.null (node_at at)) s
  unfolding primary
  unary-null at s = unary-primary inner (before (token at (w.keyword k.Nullptr) ∷ []) s) refl

  own-alone : (at : Place) (s : Within) → sees sg.Arrow s.words ≡ false → own inner at s ≡ done (e.this (node_at at)) s
  unfolding own
  own-alone at s h = rw h refl

  unary-this : (at : Place) (s : Within) → unary inner (before (token at (w.keyword k.This) ∷ []) s) ≡ own inner at s
  unfolding primary
  unary-this at s = unary-primary inner (before (token at (w.keyword k.This) ∷ []) s) refl

  unary-new : (p q : Place) (class : Placed NameId) (s : Within) → unary inner (before (token p (w.keyword k.New) ∷ token q (w.name class.item.0) ∷ []) s) ≡ created_with inner p (read_name q class) s
  unfolding primary created name
  unary-new p q class s = unary-primary inner (before (token p (w.keyword k.New) ∷ token q (w.name class.item.0) ∷ []) s) refl

  created-alone : (at : Place) (class : Placed NameId) (s : Within) → sees sg.OpenParen s.words ≡ false → created_with inner at class s ≡ done (e.new (node_at at) class) s
  unfolding created_with
  created-alone at class s h = rw h refl

  unary-paren : (at : Place) (ts : Tokens) (s : Within) → unary inner (before (token at (w.sign sg.OpenParen) ∷ ts) s) ≡ grouped inner at (before (token at (w.sign sg.OpenParen) ∷ ts) s)
  unfolding primary
  unary-paren at ts s = unary-primary inner (before (token at (w.sign sg.OpenParen) ∷ ts) s) refl

  grouped-by : (at : Place) (s rest : Within) (t : ExprTree) → enclosed inner s ≡ done t rest → grouped inner at s ≡ done (e.paren (node_at at) t) rest
  unfolding grouped
  grouped-by at s rest t h = rw h refl

  abbrev cast_word : TypeName → Keyword
  cast_word (type_of.Num kind) = k.Number kind
  cast_word type_of.Int = k.Int
  cast_word type_of.Unsigned = k.Unsigned
  cast_word _ = k.Void

  unary-cast : (t : TypeName) → IsNumberType t → (at : Place) (ts : Tokens) (s : Within) → unary inner (before (token at (w.keyword (cast_word t)) ∷ ts) s) ≡ converted inner at t (before ts s)
  unfolding primary
  unary-cast (type_of.Num kind) num at ts s = unary-primary inner (before (token at (w.keyword (k.Number kind)) ∷ ts) s) refl
  unary-cast type_of.Int num at ts s = unary-primary inner (before (token at (w.keyword k.Int) ∷ ts) s) refl
  unary-cast type_of.Unsigned num at ts s = unary-primary inner (before (token at (w.keyword k.Unsigned) ∷ ts) s) refl
  unary-cast type_of.Void num at ts s = absurd num
  unary-cast (type_of.Pointer class) num at ts s = absurd num
  unary-cast type_of.Mutex num at ts s = absurd num

  converted-by : (at : Place) (n : TypeName) (s rest : Within) (t : ExprTree) → enclosed inner s ≡ done t rest → converted inner at n s ≡ done (e.cast (node_at at) n t) rest
  unfolding converted
  converted-by at n s rest t h = rw h refl

cast_spelled : (special : SpecialName → ℕ) (t : TypeName) → IsNumberType t → spell_type special t ≡ w.keyword (cast_word None t) ∷ []
cast_spelled special (type_of.Num kind) num = refl
cast_spelled special type_of.Int num = refl
cast_spelled special type_of.Unsigned num = refl
cast_spelled special type_of.Void num = absurd num
cast_spelled special (type_of.Pointer class) num = absurd num
cast_spelled special type_of.Mutex num = absurd num

pub blank-left_by : (n : Node) (c : Callee) → blank_left (left_by n c) ≡ left_by no_node (blank_callee c)
blank-left_by n (callee_of.Bare r) = refl
blank-left_by n (callee_of.Member s) = refl

level-positive : (o : BinOp) → 0 < level_of o
level-positive op.Or = omega arith
level-positive op.And = omega arith
level-positive op.BitOr = omega arith
level-positive op.BitXor = omega arith
level-positive op.BitAnd = omega arith
level-positive op.Equal = omega arith
level-positive op.NotEqual = omega arith
level-positive op.Less = omega arith
level-positive op.LessEqual = omega arith
level-positive op.Greater = omega arith
level-positive op.GreaterEqual = omega arith
level-positive op.ShiftLeft = omega arith
level-positive op.ShiftRight = omega arith
level-positive op.Add = omega arith
level-positive op.Subtract = omega arith
level-positive op.Multiply = omega arith
level-positive op.Divide = omega arith
level-positive op.Remainder = omega arith

module _ (special : SpecialName → ℕ) (g : Grammar) (no_advice : HasAdviceForms g → ⊥) (depth : ℕ) (inner : Option (Parse Within ExprTree)) (F : IsFullInside special g depth inner) where
  abbrev Is : ExprTree → Tokens → Within → Type 0
  Is = IsReadAs special g (unary inner)

  value-full : (c : Callee) (front : Tokens) (rest : Within) → words_of front ≡ spell_callee c → Ends 0 rest.words → (at : Place) × (c' : Callee) × (blank_callee c' ≡ blank_callee c) × (unary inner (before front rest) ≡ done (e.left (left_by (node_at at) c')) rest)
  value-full c front rest i ends =
      let h = callee-full inner c front rest i ends.dot ends.arrow in
      (h.0, h.1, h.2, h.3 ∙ called-left inner (node_at h.0) h.1 rest ends.closed)

  left-full : (l : Left) (front : Tokens) (rest : Within) → FitsLeft g depth l → words_of front ≡ spell_left special l → Ends 0 rest.words → Is (e.left l) front rest
  left-full (left_of.Name r) front rest v i ends =
      let h = value-full (callee_of.Bare r) front rest i ends in
      (e.left (left_by (node_at h.0) h.1), ap e.left (blank-left_by (node_at h.0) h.1 ∙ ap (left_by no_node) h.2), h.3)
  left-full (left_of.Member n s) front rest v i ends =
      let h = value-full (callee_of.Member s) front rest i ends in
      (e.left (left_by (node_at h.0) h.1), ap e.left (blank-left_by (node_at h.0) h.1 ∙ ap (left_by no_node) h.2), h.3)
  left-full (left_of.Result n) front rest v i ends = absurd (no_advice v.0)

  flag-full : (n : Node) (b : Bool) (front : Tokens) (rest : Within) → words_of front ≡ spell_expr special (e.flag n b) → Is (e.flag n b) front rest
  flag-full n true front rest i =
      let h = front_one (w.keyword k.True) front i in
      (e.flag (node_at h.0) true, refl, ap (λ q. unary inner (before q rest)) h.1 ∙ unary-true inner h.0 rest)
  flag-full n false front rest i =
      let h = front_one (w.keyword k.False) front i in
      (e.flag (node_at h.0) false, refl, ap (λ q. unary inner (before q rest)) h.1 ∙ unary-false inner h.0 rest)

  call-full : (n : Node) (c : Callee) (xs : ExprTrees) (front : Tokens) (rest : Within) → Opens depth (λ below. FitsAll g below xs) → words_of front ≡ spell_expr special (e.call (e.calls n c xs)) → Is (e.call (e.calls n c xs)) front rest
  call-full n c xs front rest v i =
      let part : List Word = in_parentheses (separated (spell_each special xs)) in
      let s = front_append (spell_callee c) part front i in
      let mid : Within = before s.1 rest in
      let h = callee-full inner c s.0 mid s.3 (opens sg.Dot (separated (spell_each special xs)) s.1 rest s.4) (opens sg.Arrow (separated (spell_each special xs)) s.1 rest s.4) in
      let r = called-full special g depth inner F (node_at h.0) h.1 xs s.1 rest v s.4 in (
        e.call (e.calls (node_at h.0) h.1 (listed_exprs r.0)),
        ap (λ q. e.call (e.calls no_node q (blank_exprs (listed_exprs r.0)))) h.2 ∙ ap (λ q. e.call (e.calls no_node (blank_callee c) q)) r.1,
        ap (λ q. unary inner (before q rest)) s.2 ∙ ap (unary inner) (before-append s.0 s.1 rest) ∙ h.3 ∙ r.2,
      )

  new-full : (n : Node) (class : Placed NameId) (front : Tokens) (rest : Within) → words_of front ≡ spell_expr special (e.new n class) → Ends 0 rest.words → Is (e.new n class) front rest
  new-full n class front rest i ends =
      let h = front_two (w.keyword k.New) (w.name class.item.0) front i in (
        e.new (node_at h.0) (read_name h.1 class),
        refl,
        ap (λ q. unary inner (before q rest)) h.2 ∙ unary-new inner h.0 h.1 class rest ∙ created-alone inner h.0 (read_name h.1 class) rest ends.closed,
      )

  new_with-full : (n : Node) (class : Placed NameId) (xs : ExprTrees) (front : Tokens) (rest : Within) → Opens depth (λ below. FitsAll g below xs) → words_of front ≡ spell_expr special (e.new_with n class xs)
      → Is (e.new_with n class xs) front rest
  new_with-full n class xs front rest v i =
      let part : List Word = in_parentheses (separated (spell_each special xs)) in
      let s = front_append (w.keyword k.New ∷ spell_name class) part front i in
      let h = front_two (w.keyword k.New) (w.name class.item.0) s.0 s.3 in
      let mid : Within = before s.1 rest in
      let r = arguments-full special g depth inner F xs s.1 rest v s.4 in (
        e.new_with (node_at h.0) (read_name h.1 class) (listed_exprs r.0),
        ap (e.new_with no_node (blank_placed class)) r.1,
        ap (λ q. unary inner (before q rest)) s.2 ∙ ap (unary inner) (before-append s.0 s.1 rest) ∙ ap (λ q. unary inner (before q mid)) h.2 ∙ unary-new inner h.0 h.1 class mid
            ∙ created_with-arguments inner h.0 (read_name h.1 class) mid rest r.0 (opens sg.OpenParen (separated (spell_each special xs)) s.1 rest s.4) r.2,
      )

  paren-full : (n : Node) (t : ExprTree) (front : Tokens) (rest : Within) → Opens depth (λ below. FitsExpr g below expr_level t) → words_of front ≡ spell_expr special (e.paren n t) → Is (e.paren n t) front rest
  paren-full n t front rest v i =
      let h = front_cons (w.sign sg.OpenParen) (spell_expr special t ++ w.sign sg.CloseParen ∷ []) front i in
      let r = enclosed-full special g depth inner F t front rest v i in (
        e.paren (node_at h.0) r.0,
        ap (e.paren no_node) r.1,
        ap (λ q. unary inner (before q rest)) h.2 ∙ unary-paren inner h.0 h.1 rest ∙ ap (λ q. grouped inner h.0 (before q rest)) (sym h.2) ∙ grouped-by inner h.0 (before front rest) rest r.0 r.2,
      )

  cast-full : (n : Node) (type_name : TypeName) (t : ExprTree) (front : Tokens) (rest : Within) → IsNumberType type_name → Opens depth (λ below. FitsExpr g below expr_level t) → words_of front ≡ spell_expr special (e.cast n type_name t)
      → Is (e.cast n type_name t) front rest
  cast-full n type_name t front rest num v i =
      let h = front_cons (w.keyword (cast_word inner type_name)) (in_parentheses (spell_expr special t)) front (i ∙ ap (λ q. q ++ in_parentheses (spell_expr special t)) (cast_spelled special type_name num)) in
      let r = enclosed-full special g depth inner F t h.1 rest v h.3 in (
        e.cast (node_at h.0) type_name r.0,
        ap (e.cast no_node type_name) r.1,
        ap (λ q. unary inner (before q rest)) h.2 ∙ unary-cast inner type_name num h.0 h.1 rest ∙ converted-by inner h.0 type_name (before h.1 rest) rest r.0 r.2,
      )

  operated-by : (o : Placed UnOp) (s rest : Within) (t : ExprTree) → unary inner s ≡ done t rest → operated o (unary inner s) ≡ done (e.unary (node_at o.at) o.item t) rest
  operated-by o s rest t h = rw h refl

  unary-full : (t : ExprTree) (front : Tokens) (rest : Within) → FitsExpr g depth 0 t → words_of front ≡ spell_expr special t → Ends 0 rest.words → Is t front rest
  unary-full (e.lit n value) front rest v i ends =
      let h = front_one (w.number value.bits value.kind) front i in
      (e.lit (node_at h.0) value, refl, ap (λ q. unary inner (before q rest)) h.1 ∙ unary-number inner h.0 value.bits value.kind rest)
  unary-full (e.flag n b) front rest v i ends = flag-full n b front rest i
  unary-full (e.null n) front rest v i ends =
      let h = front_one (w.keyword k.Nullptr) front i in
      (e.null (node_at h.0), refl, ap (λ q. unary inner (before q rest)) h.1 ∙ unary-null inner h.0 rest)
  unary-full (e.this n) front rest v i ends =
      let h = front_one (w.keyword k.This) front i in
      (e.this (node_at h.0), refl, ap (λ q. unary inner (before q rest)) h.1 ∙ unary-this inner h.0 rest ∙ own-alone inner h.0 rest ends.arrow)
  unary-full (e.left part) front rest v i ends = left-full part front rest v i ends
  unary-full (e.unary n o t) front rest v i ends =
      let h = front_cons (w.sign (unary_sign o)) (spell_expr special t) front i in
      let r = unary-full t h.1 rest v h.3 ends in
      let placed : Placed UnOp = record { at = h.0; item = o } in (
        e.unary (node_at h.0) o r.0,
        ap (e.unary no_node o) r.1,
        ap (λ q. unary inner (before q rest)) h.2 ∙ unary-again inner placed (before h.1 rest) ∙ operated-by placed (before h.1 rest) rest r.0 r.2,
      )
  unary-full (e.binary n o a b) front rest v i ends = absurd (omega (arith, v.0, level-positive o.item))
  unary-full (e.paren n t) front rest v i ends = paren-full n t front rest v i
  unary-full (e.cast n type_name t) front rest v i ends = cast-full n type_name t front rest v.0 v.1 i
  unary-full (e.call (e.calls n c xs)) front rest v i ends = call-full n c xs front rest v i
  unary-full (e.new n class) front rest v i ends = new-full n class front rest i ends
  unary-full (e.new_with n class xs) front rest v i ends = new_with-full n class xs front rest v i

-- ---- levels

split_le : (a l : ℕ) → a ≤ suc l → (a ≤ l) ⊎ (a ≡ suc l)
split_le a l h = elim (eqb_tells a (suc l)) [ inl y ↦ inr y.1 | inr n ↦ inl (let ne = n.1 in omega (arith, h, ne)) ]

no_paren : (o : BinOp) → sees_in sg.OpenParen (w.sign (binary_sign o) ∷ []) ≡ false
no_paren op.Or = refl
no_paren op.And = refl
no_paren op.BitOr = refl
no_paren op.BitXor = refl
no_paren op.BitAnd = refl
no_paren op.Equal = refl
no_paren op.NotEqual = refl
no_paren op.Less = refl
no_paren op.LessEqual = refl
no_paren op.Greater = refl
no_paren op.GreaterEqual = refl
no_paren op.ShiftLeft = refl
no_paren op.ShiftRight = refl
no_paren op.Add = refl
no_paren op.Subtract = refl
no_paren op.Multiply = refl
no_paren op.Divide = refl
no_paren op.Remainder = refl

no_dot : (o : BinOp) → sees_in sg.Dot (w.sign (binary_sign o) ∷ []) ≡ false
no_dot op.Or = refl
no_dot op.And = refl
no_dot op.BitOr = refl
no_dot op.BitXor = refl
no_dot op.BitAnd = refl
no_dot op.Equal = refl
no_dot op.NotEqual = refl
no_dot op.Less = refl
no_dot op.LessEqual = refl
no_dot op.Greater = refl
no_dot op.GreaterEqual = refl
no_dot op.ShiftLeft = refl
no_dot op.ShiftRight = refl
no_dot op.Add = refl
no_dot op.Subtract = refl
no_dot op.Multiply = refl
no_dot op.Divide = refl
no_dot op.Remainder = refl

no_arrow : (o : BinOp) → sees_in sg.Arrow (w.sign (binary_sign o) ∷ []) ≡ false
no_arrow op.Or = refl
no_arrow op.And = refl
no_arrow op.BitOr = refl
no_arrow op.BitXor = refl
no_arrow op.BitAnd = refl
no_arrow op.Equal = refl
no_arrow op.NotEqual = refl
no_arrow op.Less = refl
no_arrow op.LessEqual = refl
no_arrow op.Greater = refl
no_arrow op.GreaterEqual = refl
no_arrow op.ShiftLeft = refl
no_arrow op.ShiftRight = refl
no_arrow op.Add = refl
no_arrow op.Subtract = refl
no_arrow op.Multiply = refl
no_arrow op.Divide = refl
no_arrow op.Remainder = refl

Ends-operator : (l : ℕ) (o : Placed BinOp) (ts : Tokens) → level_of o.item ≡ suc l → Ends l (binary_token o ∷ ts)
Ends-operator l o ts h = record {
  closed = no_paren o.item;
  dot = no_dot o.item;
  arrow = no_arrow o.item;
  none = λ n le. operator-above n o ts (λ same. let s : level_of o.item ≡ n = same in absurd (omega (arith, h, s, le)));
}

module _ (special : SpecialName → ℕ) (g : Grammar) (depth : ℕ) (inner : Option (Parse Within ExprTree)) (l : ℕ) (F : IsFull special g depth l (level inner l)) where
  -- reading the spelling of t arrives at the loop of the level with t in hand
  abbrev GoesOn : ExprTree → Tokens → Within → Type 0
  GoesOn t front rest = (t' : ExprTree) × (blank_expr t' ≡ blank_expr t) × (n : ℕ) × (length rest.words ≤ n) × (level inner (suc l) (before front rest) ≡ chain (λ s. level inner l s) (suc l) n t' rest)

  level-by : (s : Within) (t : ExprTree) (q : Within) → level inner l s ≡ done t q → level inner (suc l) s ≡ chain (λ s. level inner l s) (suc l) (length q.words) t q
  unfolding level
  level-by s t q h = rw h refl

  goes_on-low : (t : ExprTree) (front : Tokens) (rest : Within) → FitsExpr g depth l t → words_of front ≡ spell_expr special t → Ends l rest.words → GoesOn t front rest
  goes_on-low t front rest v i ends = let r = F t front rest v i ends in (r.0, r.1, length rest.words, omega arith, level-by (before front rest) r.0 rest r.2)

  taken : (o : Placed BinOp) (s : Within) → operator_taken (before (binary_token o ∷ []) s) ≡ done tt s
  taken o s = rw (charge-binary o.item s.operators) refl

  goes_on-high : (n : Node) (o : Placed BinOp) (a b : ExprTree) (front : Tokens) (rest : Within) → level_of o.item ≡ suc l → FitsExpr g depth l b → words_of front ≡ spell_expr special (e.binary n o a b) → Ends l rest.words
      → ((x : Tokens) (s : Within) → words_of x ≡ spell_expr special a → Ends l s.words → GoesOn a x s) → GoesOn (e.binary n o a b) front rest
  goes_on-high n o a b front rest h v i ends go =
      let s = front_append (spell_expr special a) (w.sign (binary_sign o.item) ∷ spell_expr special b) front i in
      let c = front_cons (w.sign (binary_sign o.item)) (spell_expr special b) s.1 s.4 in
      let placed : Placed BinOp = record { at = c.0; item = o.item } in
      let mid : Within = before c.1 rest in
      let x = go s.0 (before (binary_token placed ∷ []) mid) s.3 (Ends-operator l placed mid.words h) in
      let y = F b c.1 rest v c.3 ends in
      let turn = chain-turn (λ s. level inner l s) (suc l) x.2 x.0 (before (binary_token placed ∷ []) mid) placed tt y.0 mid rest x.3 (sym (operator-again (suc l) placed mid.words h)) (taken placed mid) y.2 (omega (arith, length-append c.1 rest.words)) in
      let whole : before front rest ≡ before s.0 (before (binary_token placed ∷ []) mid) = ap (λ q. before q rest) (s.2 ∙ ap (λ q. s.0 ++ q) c.2) ∙ before-append s.0 (binary_token placed ∷ c.1) rest in (
        joined placed x.0 y.0,
        ap (λ q. e.binary no_node (blank_placed o) q (blank_expr y.0)) x.1 ∙ ap (e.binary no_node (blank_placed o) (blank_expr a)) y.1,
        turn.0,
        turn.1,
        ap (level inner (suc l)) whole ∙ x.4 ∙ turn.2,
      )

  goes_on : (t : ExprTree) (front : Tokens) (rest : Within) → FitsExpr g depth (suc l) t → words_of front ≡ spell_expr special t → Ends l rest.words → GoesOn t front rest
  goes_on (e.lit n value) front rest v i ends = goes_on-low (e.lit n value) front rest v i ends
  goes_on (e.flag n b) front rest v i ends = goes_on-low (e.flag n b) front rest v i ends
  goes_on (e.null n) front rest v i ends = goes_on-low (e.null n) front rest v i ends
  goes_on (e.this n) front rest v i ends = goes_on-low (e.this n) front rest v i ends
  goes_on (e.left part) front rest v i ends = goes_on-low (e.left part) front rest v i ends
  goes_on (e.unary n o t) front rest v i ends = goes_on-low (e.unary n o t) front rest v i ends
  goes_on (e.paren n t) front rest v i ends = goes_on-low (e.paren n t) front rest v i ends
  goes_on (e.cast n type_name t) front rest v i ends = goes_on-low (e.cast n type_name t) front rest v i ends
  goes_on (e.call c) front rest v i ends = goes_on-low (e.call c) front rest v i ends
  goes_on (e.new n class) front rest v i ends = goes_on-low (e.new n class) front rest v i ends
  goes_on (e.new_with n class xs) front rest v i ends = goes_on-low (e.new_with n class xs) front rest v i ends
  goes_on (e.binary n o a b) front rest v i ends = by_level (λ x s u j q. goes_on a x s u j q) (split_le (level_of o.item) l v.0)
    where
      by_level : ((x : Tokens) (s : Within) → FitsExpr g depth (suc l) a → words_of x ≡ spell_expr special a → Ends l s.words → GoesOn a x s) → (level_of o.item ≤ l) ⊎ (level_of o.item ≡ suc l) → GoesOn (e.binary n o a b) front rest
      by_level go (inl h) = goes_on-low (e.binary n o a b) front rest (h, v.1, v.2) i ends
      by_level go (inr h) =
          let down : level_of o.item - 1 ≡ l = omega (arith, h) in
          goes_on-high n o a b front rest h (subst (λ m. FitsExpr g depth m b) down v.2) i ends (λ x s j q. go x s (subst (λ m. FitsExpr g depth m a) h v.1) j q)

  level-full-suc : IsFull special g depth (suc l) (level inner (suc l))
  level-full-suc t front rest v i ends =
      let r = goes_on t front rest v i (Ends-below l rest.words ends) in
      (r.0, r.1, r.4 ∙ chain-stop (λ s. level inner l s) (suc l) r.2 r.0 rest (sym (ends.none (suc l) (omega arith))))

module _ (special : SpecialName → ℕ) (g : Grammar) (no_advice : HasAdviceForms g → ⊥) where
  pub level-full : (depth : ℕ) (inner : Option (Parse Within ExprTree)) → IsFullInside special g depth inner → (l : ℕ) → IsFull special g depth l (level inner l)
  unfolding level
  level-full depth inner F zero t front rest v i ends = unary-full special g no_advice depth inner F t front rest v i ends
  level-full depth inner F (suc l) t front rest v i ends = level-full-suc special g depth inner l (λ t front rest v i ends. level-full depth inner F l t front rest v i ends) t front rest v i ends

  pub expr-full : (depth : ℕ) → IsFull special g depth expr_level (expr depth)
  expr-full zero t front rest v i ends =
      let r = level-full zero None refl expr_level t front rest v i ends in
      (r.0, r.1, expr-is zero (before front rest) ∙ r.2)
  expr-full (suc depth) t front rest v i ends =
      let r = level-full (suc depth) (inner_at (suc depth)) (λ below h. let s : depth ≡ below = omega (arith, h) in subst (λ n. IsFull special g n expr_level (λ s. expr depth s)) s (expr-full depth)) expr_level t front rest v i ends in
      (r.0, r.1, expr-is (suc depth) (before front rest) ∙ r.2)

  pub inside-full : (depth : ℕ) → IsFullInside special g depth (inner_at depth)
  inside-full zero = refl
  inside-full (suc depth) = λ below h. let s : depth ≡ below = omega (arith, h) in subst (λ n. IsFull special g n expr_level (λ s. expr depth s)) s (expr-full depth)
