-- The names in a spelling, part by part.
use Rattle.std.proofs.Common.{◌≡◌, ℕ, ◌-◌, Bool, true, false, if◌then◌else◌, List, [], ◌∷◌, ◌++◌, map, Option, Some, None, refl, sym, ap, ◌∙◌}
use Rattle.std.specs.List.{flat_map}
use Rattle.std.proofs.lemmas.Grind.{flat_map-append}
use Rattle.agxx_base.specs.declared.ids.NameId.{NameId}
use Rattle.agxx_base.specs.declared.vocabulary.Sign.{Sign}
use Rattle.agxx_base.specs.declared.vocabulary.SpecialName.{SpecialName}
use Rattle.agxx_base.specs.declared.vocabulary.SpecialName.TheVariants as sn
use Rattle.cxx_tree.specs.declared.node.Placed.{Placed}
use Rattle.cxx_tree.specs.declared.expr.Ref.{Ref}
use Rattle.cxx_tree.specs.declared.expr.Base.{Base}
use Rattle.cxx_tree.specs.declared.expr.Base.TheVariants as base_of
use Rattle.cxx_tree.specs.declared.expr.Selector.{Selector}
use Rattle.cxx_tree.specs.declared.expr.Left.{Left}
use Rattle.cxx_tree.specs.declared.expr.Left.TheVariants as left_of
use Rattle.cxx_tree.specs.declared.expr.Callee.{Callee}
use Rattle.cxx_tree.specs.declared.expr.Callee.TheVariants as callee_of
use Rattle.cxx_tree.specs.declared.program.TypeName.{TypeName}
use Rattle.cxx_tree.specs.declared.program.TypeName.TheVariants as type_of
use Rattle.cxx_tree.specs.declared.program.Param.{Param}
use Rattle.cxx_tree.specs.Words.{Word, name, sign, separated, each_after_comma, in_parentheses, optional}
use Rattle.cxx_tree.specs.Limits.{Grammar}
use Rattle.cxx_tree.specs.Fits as fits
use Rattle.cxx_tree.specs.Spelling as w
use Rattle.cxx_tree.specs.ExprTree as e
use Rattle.cxx_distinct.specs.NamesIn as n
use Rattle.names_laws.specs.SpelledNames.{kept, names_in_word, spelled_names, counted_names}

append-none : {X : Type 0} (xs : List X) → xs ++ [] ≡ xs
append-none [] = refl
append-none (x ∷ xs) = ap (λ l. x ∷ l) (append-none xs)

module _ (left_out : ℕ → Bool) where
  abbrev pub Spelled : List Word → List ℕ
  Spelled ws = spelled_names left_out ws

  abbrev pub Counted : List (Placed NameId) → List ℕ
  Counted ns = counted_names left_out ns

  -- a part has these names
  abbrev pub Has : List Word → List (Placed NameId) → Type 0
  Has ws ns = Spelled ws ≡ Counted ns

  pub both : (a b : List Word) (m k : List (Placed NameId)) → Has a m → Has b k → Has (a ++ b) (m ++ k)
  both a b m k f g =
      flat_map-append (names_in_word left_out) a b ∙ ap (λ l. l ++ Spelled b) f ∙ ap (λ l. Counted m ++ l) g
      ∙ sym (flat_map-append (λ (x : Placed NameId). kept left_out x.item.0) m k)

  -- a part without names, in front or behind
  pub behind-none : (a b : List Word) (m : List (Placed NameId)) → Has a [] → Has b m → Has (a ++ b) m
  behind-none a b m f g = both a b [] m f g

  pub before-none : (a b : List Word) (m : List (Placed NameId)) → Has a m → Has b [] → Has (a ++ b) m
  before-none a b m f g = both a b m [] f g ∙ ap Counted (append-none m)

  pub closed : (a : List Word) (it : Sign) (m : List (Placed NameId)) → Has a m → Has (a ++ sign it ∷ []) m
  closed a it m f = before-none a (sign it ∷ []) m f refl

  -- ---- rows

  abbrev Rows : List (List Word) → List ℕ
  Rows rows = flat_map Spelled rows

  after-comma-rows : (rows : List (List Word)) → Spelled (each_after_comma rows) ≡ Rows rows
  after-comma-rows [] = refl
  after-comma-rows (row ∷ rows) = flat_map-append (names_in_word left_out) row (each_after_comma rows) ∙ ap (λ l. Spelled row ++ l) (after-comma-rows rows)

  separated-rows : (rows : List (List Word)) → Spelled (separated rows) ≡ Rows rows
  separated-rows [] = refl
  separated-rows (row ∷ rows) = flat_map-append (names_in_word left_out) row (each_after_comma rows) ∙ ap (λ l. Spelled row ++ l) (after-comma-rows rows)

  pub one-row : (row : List Word) (rows : List (List Word)) (m k : List (Placed NameId)) → Has row m → Has (separated rows) k → Has (separated (row ∷ rows)) (m ++ k)
  one-row row rows m k f g =
      separated-rows (row ∷ rows) ∙ ap (λ l. l ++ Rows rows) f ∙ ap (λ l. Counted m ++ l) (sym (separated-rows rows) ∙ g)
      ∙ sym (flat_map-append (λ (x : Placed NameId). kept left_out x.item.0) m k)

  pub each-row : {A : Type 0} (spell : A → List Word) (names_in : A → List (Placed NameId)) (xs : List A) → ((x : A) → Has (spell x) (names_in x))
      → Has (separated (map spell xs)) (n.names_in_each names_in xs)
  each-row spell names_in [] each = refl
  each-row spell names_in (x ∷ xs) each = one-row (spell x) (map spell xs) (names_in x) (n.names_in_each names_in xs) (each x) (each-row spell names_in xs each)

  pub optional-part : {A : Type 0} (spell : A → List Word) (names_in : A → List (Placed NameId)) (o : Option A) → ((x : A) → Has (spell x) (names_in x))
      → Has (optional spell o) (n.names_in_optional names_in o)
  optional-part spell names_in None each = refl
  optional-part spell names_in (Some x) each = each x

  -- ---- names, numbers and flags

  scoped-part : (b : Bool) (part : List Word) (m : List (Placed NameId)) → Has part m → Has (w.scoped b part) m
  scoped-part true part m f = f
  scoped-part false part m f = f

  pub flag-part : (is_set : Bool) → Has (w.spell_flag is_set) []
  flag-part true = refl
  flag-part false = refl

  pub ref-part : (r : Ref) → Has (w.spell_ref r) (r.name ∷ [])
  ref-part r = scoped-part r.global (w.spell_name r.name) (r.name ∷ []) refl

  base-part : (b : Base) → Has (w.spell_base b) (n.names_in_base b)
  base-part base_of.This = refl
  base-part (base_of.Dot r) = closed (w.spell_ref r) _ (r.name ∷ []) (ref-part r)
  base-part (base_of.Arrow r) = closed (w.spell_ref r) _ (r.name ∷ []) (ref-part r)

  selector-part : (q : Selector) → Has (w.spell_selector q) (n.names_in_selector q)
  selector-part q = both (w.spell_base q.base) (w.spell_name q.name) (n.names_in_base q.base) (q.name ∷ []) (base-part q.base) refl

  pub callee-part : (c : Callee) → Has (w.spell_callee c) (n.names_in_callee c)
  callee-part (callee_of.Bare r) = ref-part r
  callee-part (callee_of.Member q) = selector-part q

  module _ (special : SpecialName → ℕ) (leaves : (what : SpecialName) → left_out (special what) ≡ true) where
    pub special-kept : (what : SpecialName) → kept left_out (special what) ≡ []
    special-kept what = ap (λ b. if b then [] else special what ∷ []) (leaves what)

    pub std-part : (what : SpecialName) → Has (w.spell_std special what) []
    std-part what =
        ap (λ l. l ++ (kept left_out (special what) ++ [])) (special-kept sn.Std) ∙ ap (λ l. l ++ []) (special-kept what)

    pub special-part : (what : SpecialName) (rest : List Word) (m : List (Placed NameId)) → Has rest m → Has (name (special what) ∷ rest) m
    special-part what rest m f = ap (λ l. l ++ Spelled rest) (special-kept what) ∙ f

    pub left-part : (l : Left) → Has (w.spell_left special l) (n.names_in_left l)
    left-part (left_of.Name r) = ref-part r
    left-part (left_of.Member k q) = selector-part q
    left-part (left_of.Result k) = special-part sn.Result (in_parentheses []) [] refl

    pub type-part : (t : Placed TypeName) → Has (w.spell_type special t.item) (n.names_in_type t)
    type-part t = by t.item
      where
        by : (x : TypeName) → Has (w.spell_type special x) (n.names_in_type_at t.at x)
        by (type_of.Num num) = refl
        by type_of.Int = refl
        by type_of.Unsigned = refl
        by type_of.Void = refl
        by (type_of.Pointer class) = refl
        by type_of.Mutex = std-part sn.Mutex

    cast-type : (x : TypeName) → fits.IsNumberType x → Has (w.spell_type special x) []
    cast-type (type_of.Num num) h = refl
    cast-type type_of.Int h = refl
    cast-type type_of.Unsigned h = refl
    cast-type type_of.Void h = absurd h
    cast-type (type_of.Pointer class) h = absurd h
    cast-type type_of.Mutex h = absurd h

    pub typed-part : (t : Placed TypeName) (x : Placed NameId) → Has (w.spell_typed special t x) (n.names_in_type t ++ x ∷ [])
    typed-part t x = both (w.spell_type special t.item) (w.spell_name x) (n.names_in_type t) (x ∷ []) (type-part t) refl

    -- ---- expressions

    module _ (grammar : Grammar) where
      mutual
        pub expr-part : (depth level : ℕ) (x : e.ExprTree) → fits.FitsExpr grammar depth level x → Has (w.spell_expr special x) (n.names_in_expr x)
        expr-part depth level (e.lit k value) h = refl
        expr-part depth level (e.flag k is_set) h = flag-part is_set
        expr-part depth level (e.null k) h = refl
        expr-part depth level (e.this k) h = refl
        expr-part depth level (e.left l) h = left-part l
        expr-part depth level (e.unary k o operand) h = expr-part depth 0 operand h
        expr-part depth level (e.binary k o a b) h =
            both (w.spell_expr special a) (sign (w.binary_sign o.item) ∷ w.spell_expr special b) (n.names_in_expr a) (n.names_in_expr b)
            (expr-part depth (fits.level_of o.item) a h.1) (expr-part depth (fits.level_of o.item - 1) b h.2)
        expr-part depth level (e.paren k inner) h =
            closed (w.spell_expr special inner) _ (n.names_in_expr inner) (expr-part h.0 fits.expr_level inner h.2)
        expr-part depth level (e.cast k t operand) h =
            behind-none (w.spell_type special t) (in_parentheses (w.spell_expr special operand)) (n.names_in_expr operand) (cast-type t h.0)
            (closed (w.spell_expr special operand) _ (n.names_in_expr operand) (expr-part h.1.0 fits.expr_level operand h.1.2))
        expr-part depth level (e.call c) h = call-part depth c h
        expr-part depth level (e.new k class) h = refl
        expr-part depth level (e.new_with k class es) h =
            both (w.spell_name class) (in_parentheses (separated (w.spell_each special es))) (class ∷ []) (n.names_in_exprs es) refl
            (closed (separated (w.spell_each special es)) _ (n.names_in_exprs es) (exprs-part h.0 es h.2))

        pub exprs-part : (depth : ℕ) (es : e.ExprTrees) → fits.FitsAll grammar depth es → Has (separated (w.spell_each special es)) (n.names_in_exprs es)
        exprs-part depth e.no_exprs h = refl
        exprs-part depth (e.more_exprs first rest) h =
            one-row (w.spell_expr special first) (w.spell_each special rest) (n.names_in_expr first) (n.names_in_exprs rest)
            (expr-part depth fits.expr_level first h.0) (exprs-part depth rest h.1)

        pub call-part : (depth : ℕ) (c : e.CallTree) → fits.FitsCall grammar depth c → Has (w.spell_call special c) (n.names_in_call c)
        call-part depth (e.calls k callee es) h =
            both (w.spell_callee callee) (in_parentheses (separated (w.spell_each special es))) (n.names_in_callee callee) (n.names_in_exprs es) (callee-part callee)
            (closed (separated (w.spell_each special es)) _ (n.names_in_exprs es) (exprs-part h.0 es h.2))

      -- arguments that are each an expression of its own
      module _ (most : ℕ) where
        pub each-part : (depth : ℕ) (es : e.ExprTrees) → fits.FitsEach grammar most depth es → Has (separated (w.spell_each special es)) (n.names_in_exprs es)
        each-part depth e.no_exprs h = refl
        each-part depth (e.more_exprs first rest) h =
            one-row (w.spell_expr special first) (w.spell_each special rest) (n.names_in_expr first) (n.names_in_exprs rest)
            (expr-part depth fits.expr_level first h.0.0) (each-part depth rest h.1)

        pub arguments-part : (depth : ℕ) (es : e.ExprTrees) → fits.FitsArguments grammar most depth es → Has (w.spell_arguments special es) (n.names_in_exprs es)
        arguments-part depth es h = closed (separated (w.spell_each special es)) _ (n.names_in_exprs es) (each-part h.0 es h.2)

        pub full-part : (depth level : ℕ) (x : e.ExprTree) → fits.FitsFull grammar most depth level x → Has (w.spell_expr special x) (n.names_in_expr x)
        full-part depth level x h = expr-part depth level x h.0

  pub params-part : (special : SpecialName → ℕ) (leaves : (what : SpecialName) → left_out (special what) ≡ true) (qs : List Param) → Has (w.spell_params special qs) (n.names_in_params qs)
  params-part special leaves qs =
      closed (separated (map (w.spell_param special) qs)) _ (n.names_in_params qs)
      (each-row (w.spell_param special) (λ (q : Param). n.names_in_type q.type_name ++ q.name ∷ []) qs (λ q. typed-part special leaves q.type_name q.name))
