-- What is known at a site where others are added to what is declared and to what is in scope: types and meanings stay.
use Rattle.std.proofs.Common.{◌≡◌, refl, ap, ◌∙◌, ℕ, true, false, if◌then◌else◌, List, [], ◌∷◌, ◌++◌, Option, Some, None, option_map, slice_get}
use Rattle.agxx_base.specs.declared.ids.ClassId.{ClassId}
use Rattle.agxx_base.specs.declared.ids.NameId.{NameId}
use Rattle.cxx_tree.specs.declared.node.Placed.{Placed}
use Rattle.cxx_tree.specs.declared.operator.BinOp.{BinOp}
use Rattle.cxx_tree.specs.declared.expr.Base.{Base}
use Rattle.cxx_tree.specs.declared.expr.Base.TheVariants as base_of
use Rattle.cxx_tree.specs.declared.expr.Ref.{Ref}
use Rattle.cxx_tree.specs.declared.program.Access.{Access}
use Rattle.cxx_tree.specs.declared.program.Access.TheVariants as access
use Rattle.cxx_tree.specs.declared.program.TypeName.{TypeName}
use Rattle.cxx_tree.specs.ExprTree as e
use Rattle.cxx_tree.specs.ExprTree.{ExprTree}
use Rattle.cxx_tree.specs.declared.expr.Left.TheVariants as left_of
use Rattle.cxx_names.specs.declared.declarations.MemberInfo.{MemberInfo}
use Rattle.cxx_names.specs.declared.declarations.Signature.{Signature}
use Rattle.cxx_names.specs.declared.declarations.ClassInfo.{ClassInfo}
use Rattle.cxx_names.specs.declared.declarations.Declared.{Declared}
use Rattle.cxx_names.specs.declared.types.ValueType.{ValueType}
use Rattle.cxx_names.specs.declared.types.ValueType.TheVariants as value
use Rattle.cxx_names.specs.declared.types.Thing.{Thing}
use Rattle.cxx_names.specs.declared.types.Thing.TheVariants as thing
use Rattle.cxx_names.specs.declared.types.Variable.{Variable}
use Rattle.cxx_names.specs.declared.types.Variable.TheVariants as variable_of
use Rattle.cxx_names.specs.Declarations.{class_at, is_text, is_text_by}
use Rattle.cxx_names.specs.LookUp as look
use Rattle.cxx_names.specs.Tables.{named}
use Rattle.cxx_tree.specs.declared.operator.BinOp.TheVariants as op
use Rattle.cxx_types.specs.declared.context.Context.{Context}
use Rattle.cxx_types.specs.Access as a
use Rattle.cxx_types.specs.Conversion as v
use Rattle.cxx_types.specs.Selections.{held, thing_in, value_of, dot_holder, arrow_holder}
use Rattle.cxx_types.specs.Calls.{access_of, ctor_of, result_type}
use Rattle.cxx_types.specs.Statements.{dtor_of}
use Rattle.cxx_types.specs.Expressions.{object_in}
use Rattle.cxx_distinct.specs.NamesIn.{names_in_base, names_in_expr}
use Rattle.cxx_tree.specs.Limits.{Every}
use Rattle.cxx_rules.specs.Sites as at
use Rattle.cxx_rules.specs.Sites.{Site}
use Rattle.woven_rules.proofs.Wider.{plain, IsWiderAt, IsWider, thing-same, derives-same, variable-same}

-- ---- names that stand in parts of a program

module _ (Own : ℕ → Type 0) where
  abbrev pub OwnNames : List (Placed NameId) → Type 0
  OwnNames ns = Every (λ (x : Placed NameId). Own x.item.0) ns

  pub own-front : (ns others : List (Placed NameId)) → OwnNames (ns ++ others) → OwnNames ns
  own-front [] others all = tt
  own-front (x ∷ ns) others all = (all.0, own-front ns others all.1)

  pub own-back : (ns others : List (Placed NameId)) → OwnNames (ns ++ others) → OwnNames others
  own-back [] others all = all
  own-back (x ∷ ns) others all = own-back ns others all.1

module _ (Own : ℕ → Type 0) (d z : Declared) (w : IsWider Own d z) where
  -- ---- access

  may-use-same : (x : Access) (viewer holder owner : ClassId)
      → a.may_use z x viewer holder owner ≡ a.may_use d x viewer holder owner
  may-use-same access.Public viewer holder owner = refl
  may-use-same access.Protected viewer holder owner =
      ap (λ b. if b then look.derives z holder viewer else false) (derives-same Own d z w viewer owner)
      ∙ ap (λ b. if look.derives d viewer owner then b else false) (derives-same Own d z w holder viewer)
  may-use-same access.Private viewer holder owner = refl

  pub accessible-same : (x : Access) (viewer : Option ClassId) (holder owner : ClassId)
      → a.is_accessible z x viewer holder owner ≡ a.is_accessible d x viewer holder owner
  accessible-same x None holder owner = refl
  accessible-same x (Some viewer) holder owner = may-use-same x viewer holder owner

  pub own-accessible-same : (x : Access) (viewer : Option ClassId) (owner : ClassId)
      → a.own_is_accessible z x viewer owner ≡ a.own_is_accessible d x viewer owner
  own-accessible-same x None owner = refl
  own-accessible-same x (Some viewer) owner = may-use-same x viewer viewer owner

  pub variable-accessible-same : (viewer : Option ClassId) (o : Option Variable)
      → a.variable_is_accessible z viewer o ≡ a.variable_is_accessible d viewer o
  variable-accessible-same viewer None = refl
  variable-accessible-same viewer (Some (variable_of.Local t)) = refl
  variable-accessible-same viewer (Some (variable_of.Member owner x t)) = own-accessible-same x viewer owner
  variable-accessible-same viewer (Some (variable_of.Global t)) = refl

  held-same : (viewer : Option ClassId) (o : Option Variable) → held z viewer o ≡ held d viewer o
  held-same viewer None = refl
  held-same viewer (Some x) =
      ap (λ b. if b then thing_in x else thing.Nothing) (variable-accessible-same viewer (Some x))

  pub access-of-same : (viewer : Option ClassId) (f : Option ClassId × Signature)
      → access_of z viewer f ≡ access_of d viewer f
  access-of-same viewer (None, f) = refl
  access-of-same viewer (Some owner, f) = own-accessible-same f.access viewer owner

  -- ---- conversion

  converts-same : (x y : ValueType) → v.converts z x y ≡ v.converts d x y
  converts-same (value.Number k) (value.Number j) = refl
  converts-same (value.Number k) (value.Pointer c) = refl
  converts-same (value.Number k) value.Null = refl
  converts-same (value.Pointer b) (value.Number j) = refl
  converts-same (value.Pointer b) (value.Pointer c) = derives-same Own d z w b c
  converts-same (value.Pointer b) value.Null = refl
  converts-same value.Null (value.Number j) = refl
  converts-same value.Null (value.Pointer c) = refl
  converts-same value.Null value.Null = refl

  pub may-convert-same : (x y : Option ValueType) → v.may_convert z x y ≡ v.may_convert d x y
  may-convert-same None y = refl
  may-convert-same (Some x) None = refl
  may-convert-same (Some x) (Some y) = converts-same x y

  either-way : (x y : ValueType)
      → (if v.converts z x y then true else v.converts z y x) ≡ (if v.converts d x y then true else v.converts d y x)
  either-way x y =
      ap (λ b. if b then true else v.converts z y x) (converts-same x y)
      ∙ ap (λ b. if v.converts d x y then true else b) (converts-same y x)

  compares-same : (x y : ValueType) → v.compares z x y ≡ v.compares d x y
  compares-same (value.Number k) (value.Number j) = refl
  compares-same (value.Number k) (value.Pointer c) = refl
  compares-same (value.Number k) value.Null = refl
  compares-same (value.Pointer b) (value.Number j) = refl
  compares-same (value.Pointer b) (value.Pointer c) = either-way (value.Pointer b) (value.Pointer c)
  compares-same (value.Pointer b) value.Null = either-way (value.Pointer b) value.Null
  compares-same value.Null (value.Number j) = refl
  compares-same value.Null (value.Pointer c) = either-way value.Null (value.Pointer c)
  compares-same value.Null value.Null = either-way value.Null value.Null

  may-compare-same : (x y : Option ValueType) → v.may_compare z x y ≡ v.may_compare d x y
  may-compare-same None y = refl
  may-compare-same (Some x) None = refl
  may-compare-same (Some x) (Some y) = compares-same x y

  pub takes-same : (o : BinOp) (x y : Option ValueType) → v.takes z o x y ≡ v.takes d o x y
  takes-same op.Or x y = refl
  takes-same op.And x y = refl
  takes-same op.BitOr x y = refl
  takes-same op.BitXor x y = refl
  takes-same op.BitAnd x y = refl
  takes-same op.Equal x y = may-compare-same x y
  takes-same op.NotEqual x y = may-compare-same x y
  takes-same op.Less x y = refl
  takes-same op.LessEqual x y = refl
  takes-same op.Greater x y = refl
  takes-same op.GreaterEqual x y = refl
  takes-same op.ShiftLeft x y = refl
  takes-same op.ShiftRight x y = refl
  takes-same op.Add x y = refl
  takes-same op.Subtract x y = refl
  takes-same op.Multiply x y = refl
  takes-same op.Divide x y = refl
  takes-same op.Remainder x y = refl

  equality-same : (x y : Option ValueType) → v.equality_type z x y ≡ v.equality_type d x y
  equality-same None y = refl
  equality-same (Some x) None = refl
  equality-same (Some x) (Some y) = ap (λ b. if b then Some v.truth else None) (compares-same x y)

  pub binary-same : (o : BinOp) (x y : Option ValueType) → v.binary_type z o x y ≡ v.binary_type d o x y
  binary-same op.Or x y = refl
  binary-same op.And x y = refl
  binary-same op.BitOr x y = refl
  binary-same op.BitXor x y = refl
  binary-same op.BitAnd x y = refl
  binary-same op.Equal x y = equality-same x y
  binary-same op.NotEqual x y = equality-same x y
  binary-same op.Less x y = refl
  binary-same op.LessEqual x y = refl
  binary-same op.Greater x y = refl
  binary-same op.GreaterEqual x y = refl
  binary-same op.ShiftLeft x y = refl
  binary-same op.ShiftRight x y = refl
  binary-same op.Add x y = refl
  binary-same op.Subtract x y = refl
  binary-same op.Multiply x y = refl
  binary-same op.Divide x y = refl
  binary-same op.Remainder x y = refl

  pub result-same : (t : TypeName) → result_type z t ≡ result_type d t
  result-same t = ap value_of (thing-same Own d z w t)

  -- ---- constructors and destructors

  ctor-by : (x y : Option ClassInfo) → IsWiderAt Own x y → option_map plain (ctor_of y) ≡ option_map plain (ctor_of x)
  ctor-by None None h = refl
  ctor-by None (Some after) h = absurd h
  ctor-by (Some before) None h = absurd h
  ctor-by (Some before) (Some after) h = h.ctor

  dtor-by : (x y : Option ClassInfo) → IsWiderAt Own x y → option_map plain (dtor_of y) ≡ option_map plain (dtor_of x)
  dtor-by None None h = refl
  dtor-by None (Some after) h = absurd h
  dtor-by (Some before) None h = absurd h
  dtor-by (Some before) (Some after) h = h.dtor

  pub ctor-same : (c : ClassId) → option_map plain (ctor_of (class_at z c)) ≡ option_map plain
      (ctor_of (class_at d c))
  ctor-same c = ctor-by (class_at d c) (class_at z c) (w.classes c)

  pub dtor-same : (c : ClassId) → option_map plain (dtor_of (class_at z c)) ≡ option_map plain
      (dtor_of (class_at d c))
  dtor-same c = dtor-by (class_at d c) (class_at z c) (w.classes c)

-- ---- sites

module _ (Own : ℕ → Type 0) where
  -- one place in a program and in its protected program
  pub record Both : Type 0 where
    pub d : Declared
    pub z : Declared
    pub wide : IsWider Own d z
    pub before : List (List ℕ)
    pub after : List (List ℕ)
    pub texts : (k : ℕ) → Own k → slice_get after k ≡ slice_get before k
    pub context : Context
    pub s : List (ℕ × Thing)
    pub t : List (ℕ × Thing)
    pub same : (k : ℕ) → Own k → named t k ≡ named s k
    pub l : ℕ
    pub r : ℕ
    pub m : ℕ
    pub n : ℕ

  abbrev pub source : Both → Site
  source b =
      record { names = b.before; declared = b.d; context = b.context; scope = b.s; locals = b.l; returns = b.r }

  abbrev pub woven : Both → Site
  woven b = record { names = b.after; declared = b.z; context = b.context; scope = b.t; locals = b.m; returns = b.n }

  module _ (b : Both) where
    pub text-same : (k : ℕ) → Own k → (text : List ℕ) → is_text b.after k text ≡ is_text b.before k text
    text-same k own text = ap (λ o. is_text_by o text) (b.texts k own)

    pub meant-same : (x : Ref) → Own x.name.item.0 → at.variable_meant (woven b) x ≡ at.variable_meant (source b) x
    meant-same x own = variable-same Own b.d b.z b.wide b.s b.t b.context.class x own (b.same x.name.item.0 own)

    pub usable-same : (x : Ref) → Own x.name.item.0
        → at.variable_is_usable (woven b) x ≡ at.variable_is_usable (source b) x
    usable-same x own =
        ap (a.variable_is_accessible b.z b.context.class) (meant-same x own)
        ∙ variable-accessible-same Own b.d b.z b.wide b.context.class (at.variable_meant (source b) x)

    pub held-at-same : (x : Ref) → Own x.name.item.0 → at.thing_held (woven b) x ≡ at.thing_held (source b) x
    held-at-same x own =
        ap (held b.z b.context.class) (meant-same x own)
        ∙ held-same Own b.d b.z b.wide b.context.class (at.variable_meant (source b) x)

    pub holder-same : (x : Base) → OwnNames Own (names_in_base x)
        → at.holder_of (woven b) x ≡ at.holder_of (source b) x
    holder-same base_of.This own = refl
    holder-same (base_of.Dot x) own = ap dot_holder (held-at-same x own.0)
    holder-same (base_of.Arrow x) own = ap arrow_holder (held-at-same x own.0)

    pub object-same : (x : ExprTree) → OwnNames Own (names_in_expr x)
        → at.object_of (woven b) x ≡ at.object_of (source b) x
    object-same (e.lit node number) own = refl
    object-same (e.flag node is_set) own = refl
    object-same (e.null node) own = refl
    object-same (e.this node) own = refl
    object-same (e.left (left_of.Name x)) own = ap object_in (meant-same x own.0)
    object-same (e.left (left_of.Member node q)) own = refl
    object-same (e.left (left_of.Result node)) own = refl
    object-same (e.unary node o x) own = refl
    object-same (e.binary node o x y) own = refl
    object-same (e.paren node x) own = refl
    object-same (e.cast node type x) own = refl
    object-same (e.call x) own = refl
    object-same (e.new node class) own = refl
    object-same (e.new_with node class arguments) own = refl

    pub member-usable-same : (class : ClassId) (x : ClassId × MemberInfo)
        → at.member_is_usable (woven b) class x ≡ at.member_is_usable (source b) class x
    member-usable-same class x = accessible-same Own b.d b.z b.wide x.1.access b.context.class class x.0

    pub method-usable-same : (class : ClassId) (x : ClassId × Signature)
        → at.method_is_usable (woven b) class x ≡ at.method_is_usable (source b) class x
    method-usable-same class x = accessible-same Own b.d b.z b.wide x.1.access b.context.class class x.0

    pub member-held-same : (class : ClassId) (x : ClassId × MemberInfo)
        → at.member_held (woven b) class x ≡ at.member_held (source b) class x
    member-held-same class x =
        ap (λ y. if y then look.thing_of b.z x.1.type_name else thing.Nothing) (member-usable-same class x)
        ∙ ap (λ y. if at.member_is_usable (source b) class x then y else thing.Nothing)
        (thing-same Own b.d b.z b.wide x.1.type_name)

    pub is-usable-same : (class : ClassId) (o : Option Signature)
        → at.is_usable (woven b) class o ≡ at.is_usable (source b) class o
    is-usable-same class None = refl
    is-usable-same class (Some f) = accessible-same Own b.d b.z b.wide f.access b.context.class class class
