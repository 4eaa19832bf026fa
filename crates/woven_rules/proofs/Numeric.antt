-- Code over variables that hold numbers violates no rule.
use Rattle.std.proofs.Common.{◌≡◌, refl, ap, ◌∙◌, true, false, not, if◌then◌else◌, [], ◌∷◌, ◌++◌, Option, Some, None, is_some}
use Rattle.agxx_base.specs.declared.ids.NameId.{NameId}
use Rattle.agxx_base.specs.declared.kind.NumKind.{NumKind}
use Rattle.agxx_base.specs.declared.kind.NumKind.TheVariants as num
use Rattle.agxx_base.specs.declared.place.Place.{Place}
use Rattle.cxx_tree.specs.declared.node.Placed.{Placed}
use Rattle.cxx_tree.specs.declared.operator.BinOp.{BinOp}
use Rattle.cxx_tree.specs.declared.operator.BinOp.TheVariants as op
use Rattle.cxx_tree.specs.declared.operator.UnOp.TheVariants as un
use Rattle.cxx_tree.specs.declared.expr.Base.TheVariants as base_of
use Rattle.cxx_tree.specs.declared.expr.Callee.TheVariants as callee_of
use Rattle.cxx_tree.specs.declared.expr.Left.TheVariants as left_of
use Rattle.cxx_tree.specs.declared.expr.Ref.{Ref}
use Rattle.cxx_tree.specs.declared.program.TypeName.TheVariants as type_name
use Rattle.cxx_tree.specs.ExprTree as e
use Rattle.cxx_tree.specs.ExprTree.{ExprTree}
use Rattle.cxx_tree.specs.StmtTree as s
use Rattle.cxx_tree.specs.Places.{expr_node}
use Rattle.cxx_names.specs.declared.declarations.Declared.{Declared}
use Rattle.cxx_names.specs.declared.types.ValueType.{ValueType}
use Rattle.cxx_names.specs.declared.types.ValueType.TheVariants as value
use Rattle.cxx_names.specs.declared.types.Thing.{Thing}
use Rattle.cxx_names.specs.declared.types.Thing.TheVariants as thing
use Rattle.cxx_names.specs.declared.types.Variable.{Variable}
use Rattle.cxx_names.specs.Declarations.{class_named}
use Rattle.cxx_names.specs.Tables.{named}
use Rattle.cxx_types.specs.Access.{variable_is_accessible}
use Rattle.cxx_types.specs.Conversion.{takes, takes_one, binary_type, unary_type, casts, cast_type, may_convert}
use Rattle.cxx_types.specs.Selections.{held, thing_in, is_value, value_of, has_dot, dot_holder}
use Rattle.cxx_rules.specs.Sites as at
use Rattle.cxx_rules.specs.Sites.{Site}
use Rattle.cxx_rules.specs.Types as typed
use Rattle.cxx_rules.specs.Forms as form
use Rattle.cxx_rules.specs.StmtForms as f
use Rattle.cxx_rules.specs.Unless.{unless}
use Rattle.cxx_rules.specs.UnknownName as n1
use Rattle.cxx_rules.specs.DeclaredTwice as n2
use Rattle.cxx_rules.specs.TypesDisagree as n3
use Rattle.cxx_rules.specs.WrongNumberOfArguments as n4
use Rattle.cxx_rules.specs.NotAccessible as n6
use Rattle.cxx_rules.specs.NotAllowedHere as n8
use Rattle.cxx_make.specs.Made as made
use Rattle.woven_rules.proofs.Right.{Right, Rights, joined}

-- ---- operators on numbers

abbrev number : NumKind → Option ValueType
number k = Some (value.Number k)

abbrev IsNumber : Option ValueType → Type 0
IsNumber t = (k : NumKind) × (t ≡ number k)

takes-numbers : (d : Declared) (o : BinOp) (a b : NumKind) → takes d o (number a) (number b) ≡ true
takes-numbers d op.Or a b = refl
takes-numbers d op.And a b = refl
takes-numbers d op.BitOr a b = refl
takes-numbers d op.BitXor a b = refl
takes-numbers d op.BitAnd a b = refl
takes-numbers d op.Equal a b = refl
takes-numbers d op.NotEqual a b = refl
takes-numbers d op.Less a b = refl
takes-numbers d op.LessEqual a b = refl
takes-numbers d op.Greater a b = refl
takes-numbers d op.GreaterEqual a b = refl
takes-numbers d op.ShiftLeft a b = refl
takes-numbers d op.ShiftRight a b = refl
takes-numbers d op.Add a b = refl
takes-numbers d op.Subtract a b = refl
takes-numbers d op.Multiply a b = refl
takes-numbers d op.Divide a b = refl
takes-numbers d op.Remainder a b = refl

binary-number : (d : Declared) (o : BinOp) (a b : NumKind) → IsNumber (binary_type d o (number a) (number b))
binary-number d op.Or a b = (_, refl)
binary-number d op.And a b = (_, refl)
binary-number d op.BitOr a b = (_, refl)
binary-number d op.BitXor a b = (_, refl)
binary-number d op.BitAnd a b = (_, refl)
binary-number d op.Equal a b = (_, refl)
binary-number d op.NotEqual a b = (_, refl)
binary-number d op.Less a b = (_, refl)
binary-number d op.LessEqual a b = (_, refl)
binary-number d op.Greater a b = (_, refl)
binary-number d op.GreaterEqual a b = (_, refl)
binary-number d op.ShiftLeft a b = (_, refl)
binary-number d op.ShiftRight a b = (_, refl)
binary-number d op.Add a b = (_, refl)
binary-number d op.Subtract a b = (_, refl)
binary-number d op.Multiply a b = (_, refl)
binary-number d op.Divide a b = (_, refl)
binary-number d op.Remainder a b = (_, refl)

casts-number : (k j : NumKind) → casts k (number j) ≡ true
casts-number num.Bool j = refl
casts-number num.I8 j = refl
casts-number num.U8 j = refl
casts-number num.I16 j = refl
casts-number num.U16 j = refl
casts-number num.I32 j = refl
casts-number num.U32 j = refl
casts-number num.I64 j = refl
casts-number num.U64 j = refl

cast-number : (k j : NumKind) → IsNumber (cast_type k (number j))
cast-number num.Bool j = (_, refl)
cast-number num.I8 j = (_, refl)
cast-number num.U8 j = (_, refl)
cast-number num.I16 j = (_, refl)
cast-number num.U16 j = (_, refl)
cast-number num.I32 j = (_, refl)
cast-number num.U32 j = (_, refl)
cast-number num.I64 j = (_, refl)
cast-number num.U64 j = (_, refl)

module _ (v : Site) where
  -- ---- variables

  -- a name means a variable that may be used and holds this
  pub record Holds (r : Ref) (t : Thing) : Type 0 where
    pub var : Variable
    pub is : at.variable_meant v r ≡ Some var
    pub usable : variable_is_accessible v.declared v.context.class (Some var) ≡ true
    pub what : thing_in var ≡ t

  pub held-is : (r : Ref) (t : Thing) → Holds r t → at.thing_held v r ≡ t
  held-is r t h =
      ap (held v.declared v.context.class) h.is
      ∙ (ap (λ b. if b then thing_in h.var else thing.Nothing) h.usable ∙ h.what)

  pub variable-right : (r : Ref) (t : Thing) → Holds r t → is_value t ≡ true → Right (form.variable v r)
  variable-right r t h is = (
    ap (λ o. unless (is_some o) r.name.at) h.is,
    refl,
    ap (λ x. unless (is_value x) r.node.at) (held-is r t h) ∙ ap (λ b. unless b r.node.at) is,
    refl,
    refl,
    ap (λ o. unless (variable_is_accessible v.declared v.context.class o) r.name.at) h.is
        ∙ ap (λ b. unless b r.name.at) h.usable,
    refl,
    refl,
    refl,
  )

  abbrev pub HoldsNumber : Ref → Type 0
  HoldsNumber r = (k : NumKind) × Holds r (thing.Value (value.Number k))

  -- ---- expressions

  abbrev pub IsNumeric : ExprTree → Type 0
  IsNumeric (e.lit n x) = Unit {0}
  IsNumeric (e.flag n is_set) = ⊥
  IsNumeric (e.null n) = ⊥
  IsNumeric (e.this n) = ⊥
  IsNumeric (e.left (left_of.Name r)) = HoldsNumber r
  IsNumeric (e.left (left_of.Member n q)) = ⊥
  IsNumeric (e.left (left_of.Result n)) = ⊥
  IsNumeric (e.unary n un.AddressOf x) = ⊥
  IsNumeric (e.unary n un.Negate x) = IsNumeric x
  IsNumeric (e.unary n un.Not x) = IsNumeric x
  IsNumeric (e.unary n un.Complement x) = IsNumeric x
  IsNumeric (e.binary n o a b) = IsNumeric a × IsNumeric b
  IsNumeric (e.paren n x) = IsNumeric x
  IsNumeric (e.cast n (type_name.Num k) x) = IsNumeric x
  IsNumeric (e.cast n type_name.Int x) = ⊥
  IsNumeric (e.cast n type_name.Unsigned x) = ⊥
  IsNumeric (e.cast n type_name.Void x) = ⊥
  IsNumeric (e.cast n (type_name.Pointer class) x) = ⊥
  IsNumeric (e.cast n type_name.Mutex x) = ⊥
  IsNumeric (e.call c) = ⊥
  IsNumeric (e.new n class) = ⊥
  IsNumeric (e.new_with n class arguments) = ⊥

  abbrev Works : ExprTree → Type 0
  Works x = Rights (form.forms_of v x) × IsNumber (typed.type_of_expr v x)

  name-works : (r : Ref) → HoldsNumber r → Works (e.left (left_of.Name r))
  name-works r h = (
    (variable-right r (thing.Value (value.Number h.0)) h.1 refl, tt),
    (h.0, ap value_of (held-is r (thing.Value (value.Number h.0)) h.1)),
  )

  binary-works : (n : _) (o : Placed BinOp) (a b : ExprTree) → Works a → Works b → Works (e.binary n o a b)
  binary-works n o a b first second =
      let types : binary_type v.declared o.item (typed.type_of_expr v a) (typed.type_of_expr v b) ≡ binary_type
      v.declared o.item (number first.1.0) (number second.1.0) =
      ap (λ t. binary_type v.declared o.item t (typed.type_of_expr v b)) first.1.1
      ∙ ap (binary_type v.declared o.item (number first.1.0)) second.1.1 in
      let made = binary-number v.declared o.item first.1.0 second.1.0 in (
        joined (form.forms_of v a) _ first.0 (joined (form.forms_of v b) _ second.0 (
          (
            refl,
            refl,
            ap (λ t. unless (takes v.declared o.item t (typed.type_of_expr v b)) o.at) first.1.1
                ∙ (ap (λ t. unless (takes v.declared o.item (number first.1.0) t) o.at) second.1.1
                ∙ ap (λ x. unless x o.at) (takes-numbers v.declared o.item first.1.0 second.1.0)),
            refl,
            refl,
            refl,
            refl,
            refl,
            refl,
          ),
          tt,
        )),
        (made.0, types ∙ made.1),
      )

  cast-works : (n : _) (k : NumKind) (x : ExprTree) → Works x → Works (e.cast n (type_name.Num k) x)
  cast-works n k x inner =
      let made = cast-number k inner.1.0 in (
        joined (form.forms_of v x) _ inner.0 (
          (
            refl,
            refl,
            ap (λ t. unless (casts k t) (expr_node x).at) inner.1.1
                ∙ ap (λ b. unless b (expr_node x).at) (casts-number k inner.1.0),
            refl,
            refl,
            refl,
            refl,
            refl,
            refl,
          ),
          tt,
        ),
        (made.0, ap (cast_type k) inner.1.1 ∙ made.1),
      )

  pub numeric : (x : ExprTree) → IsNumeric x → Works x
  numeric (e.lit n x) h = (tt, (x.kind, refl))
  numeric (e.flag n is_set) h = absurd h
  numeric (e.null n) h = absurd h
  numeric (e.this n) h = absurd h
  numeric (e.left (left_of.Name r)) h = name-works r h
  numeric (e.left (left_of.Member n q)) h = absurd h
  numeric (e.left (left_of.Result n)) h = absurd h
  numeric (e.unary n un.AddressOf x) h = absurd h
  numeric (e.unary n un.Negate x) h =
      let inner = numeric x h in (
        joined (form.forms_of v x) _ inner.0 (
          (refl, refl, ap (λ t. unless (takes_one un.Negate t) n.at) inner.1.1, refl, refl, refl, refl, refl, refl),
          tt,
        ),
        (_, ap (unary_type un.Negate) inner.1.1),
      )
  numeric (e.unary n un.Not x) h =
      let inner = numeric x h in (
        joined (form.forms_of v x) _ inner.0 ((refl, refl, refl, refl, refl, refl, refl, refl, refl), tt),
        (_, ap (unary_type un.Not) inner.1.1),
      )
  numeric (e.unary n un.Complement x) h =
      let inner = numeric x h in (
        joined (form.forms_of v x) _ inner.0 (
          (
            refl,
            refl,
            ap (λ t. unless (takes_one un.Complement t) n.at) inner.1.1,
            refl,
            refl,
            refl,
            refl,
            refl,
            refl,
          ),
          tt,
        ),
        (_, ap (unary_type un.Complement) inner.1.1),
      )
  numeric (e.binary n o a b) h = binary-works n o a b (numeric a h.0) (numeric b h.1)
  numeric (e.paren n x) h = numeric x h
  numeric (e.cast n (type_name.Num k) x) h = cast-works n k x (numeric x h)
  numeric (e.cast n type_name.Int x) h = absurd h
  numeric (e.cast n type_name.Unsigned x) h = absurd h
  numeric (e.cast n type_name.Void x) h = absurd h
  numeric (e.cast n (type_name.Pointer class) x) h = absurd h
  numeric (e.cast n type_name.Mutex x) h = absurd h
  numeric (e.call c) h = absurd h
  numeric (e.new n class) h = absurd h
  numeric (e.new_with n class arguments) h = absurd h

  -- ---- statements

  module _ (place : Place) where
    abbrev pub assigned : NameId → ExprTree → s.AssignTree
    assigned name x =
        record { left = left_of.Name (made.ref place name); sign = record { at = place; item = None }; value = x }

    pub assign-right : (name : NameId) (x : ExprTree) → HoldsNumber (made.ref place name) → IsNumeric x
        → Rights (f.forms_of_assign v (assigned name x))
    assign-right name x h numbers =
        let inner = numeric x numbers in
        let held = held-is (made.ref place name) (thing.Value (value.Number h.0)) h.1 in (
          variable-right (made.ref place name) (thing.Value (value.Number h.0)) h.1 refl,
          joined (form.forms_of v x) _ inner.0 (
            (
              refl,
              refl,
              ap (λ t. unless (n3.assigns v.declared None (value_of t) (typed.type_of_expr v x)) place) held
                  ∙ ap (λ t. unless (n3.assigns v.declared None (number h.0) t) place) inner.1.1,
              refl,
              refl,
              refl,
              refl,
              refl,
              refl,
            ),
            tt,
          ),
        )

    abbrev pub declared : NumKind → NameId → ExprTree → s.LocalTree
    declared kind name x =
        record {
          type_name = record { at = place; item = type_name.Num kind };
          name = record
              { at = place; item = name };
          initial = Some (record { sign = place; value = x });
        }

    pub local-right : (kind : NumKind) (name : NameId) (x : ExprTree) → named v.scope name.0 ≡ None
        → class_named v.declared name.0 ≡ None → IsNumeric x → Rights (f.forms_of_local v (declared kind name x))
    local-right kind name x fresh apart numbers =
        let inner = numeric x numbers in (
          (refl, refl, refl, refl, refl, refl, refl, refl, refl),
          joined (form.forms_of v x ++ form.initial v (type_name.Num kind) (record { sign = place; value = x }) ∷ [])
              _
              (joined (form.forms_of v x) _ inner.0 (
                (
                  refl,
                  refl,
                  ap (λ t. unless (may_convert v.declared t (number kind)) place) inner.1.1,
                  refl,
                  refl,
                  refl,
                  refl,
                  refl,
                  refl,
                ),
                tt,
              )) (
                (refl, ap (λ o. unless (not (is_some o)) place) fresh, refl, refl, refl, refl, refl, refl, refl),
                (
                  (
                    refl,
                    ap (λ o. n2.later_of v.context.index (record { at = place; item = name }) (n2.info_of v o))
                        apart,
                    refl,
                    refl,
                    refl,
                    refl,
                    refl,
                    refl,
                    refl,
                  ),
                  ((refl, refl, refl, refl, refl, refl, refl, refl, refl), tt),
                ),
              ),
        )

    -- a function of a mutex is called
    pub mutex-right : (object name : NameId) → Holds (made.ref place object) thing.Mutex
        → at.is_of_mutexes v (record { at = place; item = name }) ≡ true
        → Rights (f.forms_of_simple v (s.call_stmt
        (e.calls (made.node place) (callee_of.Member
        (record { base = base_of.Dot (made.ref place object); name = record { at = place; item = name } }))
        e.no_exprs)))
    mutex-right object name h is =
        let held = held-is (made.ref place object) thing.Mutex h in
        let here = ap dot_holder held in
        let called : Placed NameId = record { at = place; item = name } in (
          (
            ap (λ o. unless (is_some o) place) h.is,
            refl,
            ap (λ t. unless (has_dot t) place) held,
            refl,
            refl,
            ap (λ o. unless (variable_is_accessible v.declared v.context.class o) place) h.is
                ∙ ap (λ b. unless b place) h.usable,
            refl,
            refl,
            refl,
          ),
          (
            (
              ap (n1.unknown_method v called) here ∙ ap (λ b. unless b place) is,
              refl,
              ap (n3.behind_no_result v (made.node place) called false) here,
              ap (n4.behind_wrong_number v called 0) here ∙ ap (n4.taking_none called 0) is,
              refl,
              ap (n6.method_not_accessible v called) here,
              refl,
              ap (n8.no_call_value v (made.node place) called false) here
                  ∙ ap (n8.statement_alone (made.node place) false) is,
              refl,
            ),
            tt,
          ),
        )
