-- How kinds, types, operators and what names stand for are kept.
use Rattle.std.specs.Prelude.{◌≡◌, ℕ, Bool, [], ◌∷◌, refl}
use base.Stored.{Gv, gnil, gnum, gcons, num}
use Rattle.agxx_base.specs.declared.ids.ClassId.{ClassId}
use Rattle.agxx_base.specs.declared.kind.NumKind.{NumKind}
use Rattle.agxx_base.specs.declared.kind.NumKind.TheVariants as kind
use Rattle.agxx_base.specs.declared.place.Place.{Place}
use Rattle.cxx_tree.specs.declared.operator.BinOp.{BinOp}
use Rattle.cxx_tree.specs.declared.operator.BinOp.TheVariants as op
use Rattle.cxx_tree.specs.declared.operator.UnOp.{UnOp}
use Rattle.cxx_tree.specs.declared.operator.UnOp.TheVariants as un
use Rattle.cxx_arith.specs.declared.value.Value.{Value}
use Rattle.cxx_names.specs.declared.types.ValueType.{ValueType}
use Rattle.cxx_names.specs.declared.types.ValueType.TheVariants as type
use Rattle.cxx_core.specs.CoreExpr as c
use Rattle.cxx_core.specs.CoreExpr.{CoreVariable, CoreObject, CoreLeft, CoreCallee}
use Rattle.cxx_core.specs.Kept.{Kept, first_part, second_part, kept_ℕ, kept_bool, kept_by, kept×, kept_option, pick}

abbrev pub kept_place : Kept Place
kept_place =
    kept_by (kept× kept_ℕ (kept× kept_ℕ kept_ℕ)) (λ at. (at.file, (at.line, at.column)))
    (λ t. record { file = t.0; line = t.1.0; column = t.1.1 }) (λ _. refl)

abbrev pub kept_class : Kept ClassId
kept_class = kept_by kept_ℕ (λ class. class.0) (λ n. record { 0 = n }) (λ _. refl)

-- ---- kinds and operators, by their numbers

abbrev pub kind_number : NumKind → ℕ
kind_number kind.Bool = 0
kind_number kind.I8 = 1
kind_number kind.U8 = 2
kind_number kind.I16 = 3
kind_number kind.U16 = 4
kind_number kind.I32 = 5
kind_number kind.U32 = 6
kind_number kind.I64 = 7
kind_number kind.U64 = 8

abbrev pub kind_at : ℕ → NumKind
kind_at =
    pick kind.Bool
    (kind.Bool ∷ kind.I8 ∷ kind.U8 ∷ kind.I16 ∷ kind.U16 ∷ kind.I32 ∷ kind.U32 ∷ kind.I64 ∷ kind.U64 ∷ [])

pub kind-same : (k : NumKind) → kind_at (kind_number k) ≡ k
kind-same kind.Bool = refl
kind-same kind.I8 = refl
kind-same kind.U8 = refl
kind-same kind.I16 = refl
kind-same kind.U16 = refl
kind-same kind.I32 = refl
kind-same kind.U32 = refl
kind-same kind.I64 = refl
kind-same kind.U64 = refl

abbrev pub kept_kind : Kept NumKind
kept_kind = kept_by kept_ℕ kind_number kind_at kind-same

abbrev pub op_number : BinOp → ℕ
op_number op.Or = 0
op_number op.And = 1
op_number op.BitOr = 2
op_number op.BitXor = 3
op_number op.BitAnd = 4
op_number op.Equal = 5
op_number op.NotEqual = 6
op_number op.Less = 7
op_number op.LessEqual = 8
op_number op.Greater = 9
op_number op.GreaterEqual = 10
op_number op.ShiftLeft = 11
op_number op.ShiftRight = 12
op_number op.Add = 13
op_number op.Subtract = 14
op_number op.Multiply = 15
op_number op.Divide = 16
op_number op.Remainder = 17

abbrev pub op_at : ℕ → BinOp
op_at =
    pick op.Or
    (op.Or ∷ op.And ∷ op.BitOr ∷ op.BitXor ∷ op.BitAnd ∷ op.Equal ∷ op.NotEqual ∷ op.Less ∷ op.LessEqual
    ∷ op.Greater ∷ op.GreaterEqual ∷ op.ShiftLeft ∷ op.ShiftRight ∷ op.Add ∷ op.Subtract ∷ op.Multiply
    ∷ op.Divide ∷ op.Remainder ∷ [])

pub op-same : (o : BinOp) → op_at (op_number o) ≡ o
op-same op.Or = refl
op-same op.And = refl
op-same op.BitOr = refl
op-same op.BitXor = refl
op-same op.BitAnd = refl
op-same op.Equal = refl
op-same op.NotEqual = refl
op-same op.Less = refl
op-same op.LessEqual = refl
op-same op.Greater = refl
op-same op.GreaterEqual = refl
op-same op.ShiftLeft = refl
op-same op.ShiftRight = refl
op-same op.Add = refl
op-same op.Subtract = refl
op-same op.Multiply = refl
op-same op.Divide = refl
op-same op.Remainder = refl

abbrev pub kept_op : Kept BinOp
kept_op = kept_by kept_ℕ op_number op_at op-same

abbrev pub unary_number : UnOp → ℕ
unary_number un.Negate = 0
unary_number un.Not = 1
unary_number un.Complement = 2
unary_number un.AddressOf = 3

abbrev pub unary_at : ℕ → UnOp
unary_at = pick un.Negate (un.Negate ∷ un.Not ∷ un.Complement ∷ un.AddressOf ∷ [])

pub unary-same : (o : UnOp) → unary_at (unary_number o) ≡ o
unary-same un.Negate = refl
unary-same un.Not = refl
unary-same un.Complement = refl
unary-same un.AddressOf = refl

abbrev pub kept_unary : Kept UnOp
kept_unary = kept_by kept_ℕ unary_number unary_at unary-same

-- ---- types and values

abbrev pub write_type : ValueType → Gv
write_type (type.Number k) = gcons (gnum 0) (kept_kind.write k)
write_type (type.Pointer class) = gcons (gnum 1) (kept_class.write class)
write_type type.Null = gnil

abbrev pub read_type : Gv → ValueType
read_type (gcons n x) = pick type.Null (type.Number (kept_kind.read x) ∷ type.Pointer (kept_class.read x) ∷ []) (num n)
read_type _ = type.Null

pub type-same : (t : ValueType) → read_type (write_type t) ≡ t
type-same (type.Number k) = λ i. type.Number (kept_kind.same k i)
type-same (type.Pointer class) = refl
type-same type.Null = refl

abbrev pub kept_type : Kept ValueType
kept_type = record { write = write_type; read = read_type; same = type-same }

abbrev pub kept_value : Kept Value
kept_value = kept_by (kept× kept_kind kept_ℕ) (λ v. (v.kind, v.bits)) (λ t. record { kind = t.0; bits = t.1 }) (λ _. refl)

-- ---- variables, objects and functions

abbrev pub kept_local : Kept (ℕ × ValueType)
kept_local = kept× kept_ℕ kept_type

abbrev pub kept_global : Kept (Bool × (ℕ × ValueType))
kept_global = kept× kept_bool kept_local

abbrev pub write_variable : CoreVariable → Gv
write_variable (c.local name t) = gcons (gnum 0) (kept_local.write (name, t))
write_variable (c.global is_global name t) = gcons (gnum 1) (kept_global.write (is_global, (name, t)))

abbrev pub local_of : ℕ × ValueType → CoreVariable
local_of x = c.local x.0 x.1

abbrev pub global_of : Bool × (ℕ × ValueType) → CoreVariable
global_of x = c.global x.0 x.1.0 x.1.1

abbrev pub variable_at : ℕ → Gv → CoreVariable
variable_at n x = pick (global_of (kept_global.read x)) (local_of (kept_local.read x) ∷ []) n

abbrev pub read_variable : Gv → CoreVariable
read_variable g = variable_at (num (first_part g)) (second_part g)

pub variable-same : (v : CoreVariable) → read_variable (write_variable v) ≡ v
variable-same (c.local name t) = λ i. local_of (kept_local.same (name, t) i)
variable-same (c.global is_global name t) = λ i. global_of (kept_global.same (is_global, (name, t)) i)

abbrev pub kept_variable : Kept CoreVariable
kept_variable = record { write = write_variable; read = read_variable; same = variable-same }

abbrev pub kept_named : Kept (ℕ × ClassId)
kept_named = kept× kept_ℕ kept_class

abbrev pub write_object : CoreObject → Gv
write_object c.own = gcons (gnum 0) gnil
write_object c.by_this = gcons (gnum 1) gnil
write_object (c.by_object name class) = gcons (gnum 2) (kept_named.write (name, class))
write_object (c.by_pointer v) = gcons (gnum 3) (kept_variable.write v)

abbrev pub object_of : ℕ × ClassId → CoreObject
object_of x = c.by_object x.0 x.1

abbrev pub object_at : ℕ → Gv → CoreObject
object_at n x = pick c.own (c.own ∷ c.by_this ∷ object_of (kept_named.read x) ∷ c.by_pointer (kept_variable.read x) ∷ []) n

abbrev pub read_object : Gv → CoreObject
read_object g = object_at (num (first_part g)) (second_part g)

pub object-same : (o : CoreObject) → read_object (write_object o) ≡ o
object-same c.own = refl
object-same c.by_this = refl
object-same (c.by_object name class) = λ i. object_of (kept_named.same (name, class) i)
object-same (c.by_pointer v) = λ i. c.by_pointer (kept_variable.same v i)

abbrev pub kept_object : Kept CoreObject
kept_object = record { write = write_object; read = read_object; same = object-same }

abbrev pub Member : Type 0
Member = (Place × CoreObject) × (ClassId × (ℕ × NumKind))

abbrev pub kept_member : Kept Member
kept_member = kept× (kept× kept_place kept_object) (kept× kept_class (kept× kept_ℕ kept_kind))

abbrev pub member_of : Member → CoreLeft
member_of x = c.member x.0.0 x.0.1 x.1.0 x.1.1.0 x.1.1.1

abbrev pub write_left : CoreLeft → Gv
write_left (c.variable v) = gcons (gnum 0) (kept_variable.write v)
write_left (c.member at o class name k) = gcons (gnum 1) (kept_member.write ((at, o), (class, (name, k))))

abbrev pub left_at : ℕ → Gv → CoreLeft
left_at n x = pick (member_of (kept_member.read x)) (c.variable (kept_variable.read x) ∷ []) n

abbrev pub read_left : Gv → CoreLeft
read_left g = left_at (num (first_part g)) (second_part g)

pub left-same : (l : CoreLeft) → read_left (write_left l) ≡ l
left-same (c.variable v) = λ i. c.variable (kept_variable.same v i)
left-same (c.member at o class name k) = λ i. member_of (kept_member.same ((at, o), (class, (name, k))) i)

abbrev pub kept_left : Kept CoreLeft
kept_left = record { write = write_left; read = read_left; same = left-same }

abbrev pub kept_callee : Kept CoreCallee
kept_callee =
    kept_by
    (kept× (kept× kept_place kept_place) (kept× (kept× kept_ℕ kept_ℕ) (kept× (kept_option kept_class) (kept× (kept_option kept_object) (kept× kept_bool (kept_option kept_type))))))
    (λ f. ((f.at, f.named), ((f.function, f.name), (f.class, (f.object, (f.is_global, f.result))))))
    (λ t. record { at = t.0.0; named = t.0.1; function = t.1.0.0; name = t.1.0.1; class = t.1.1.0; object = t.1.1.1.0; is_global = t.1.1.1.1.0; result = t.1.1.1.1.1 })
    (λ _. refl)
