-- What values amount to: as truth values, as numbers, and in another type.
use Rattle.std.specs.Prelude.{ℕ, Bool, true, false, not, nat_eq, List, [], ◌∷◌, Option, Some, None, pos}
use Rattle.std.specs.Ordering.{int_eq}
use Rattle.agxx_base.specs.declared.kind.NumKind.{NumKind}
use Rattle.agxx_base.specs.declared.kind.NumKind.TheVariants as kind
use Rattle.cxx_tree.specs.declared.operator.BinOp.{BinOp}
use Rattle.cxx_tree.specs.declared.operator.BinOp.TheVariants as op
use Rattle.cxx_arith.specs.declared.value.Value.{Value}
use Rattle.cxx_arith.specs.Numbers.{number, flag, convert_of}
use Rattle.cxx_names.specs.declared.types.ValueType.{ValueType}
use Rattle.cxx_names.specs.declared.types.ValueType.TheVariants as type
use Rattle.step_machine.specs.declared.datum.Datum.{Datum}
use Rattle.step_machine.specs.declared.datum.Datum.TheVariants as datum

-- a pointer to the object of this number
abbrev pub to_object : ℕ → Datum
to_object o = datum.Pointer (record { 0 = o })

-- the value as a number; of a pointer only whether it is null
abbrev pub as_number : Datum → Value
as_number (datum.Number v) = v
as_number (datum.Pointer o) = flag true
as_number datum.Null = flag false

-- the object that a pointer points to
abbrev pub object_of : Datum → Option ℕ
object_of (datum.Pointer o) = Some o.0
object_of _ = None

-- a number that isn't 0, or a pointer that isn't null
abbrev pub is_true : Datum → Bool
is_true d = not (int_eq (number (as_number d)) (pos 0))

abbrev pub truth_value : Bool → Datum
truth_value b = datum.Number (flag b)

abbrev pub of_kind : NumKind → Datum → Datum
of_kind k d = datum.Number (convert_of k (as_number d))

-- the value in a type; a pointer to a class is one to its base
abbrev pub converted : ValueType → Datum → Datum
converted (type.Number k) d = of_kind k d
converted _ d = d

-- the bits of a number of a kind, as they stand in a word
abbrev pub bits_of : NumKind → Datum → ℕ
bits_of k d = (convert_of k (as_number d)).bits

abbrev pub from_bits_of : NumKind → ℕ → Datum
from_bits_of k bits = datum.Number (record { kind = k; bits = bits })

-- what a variable of a type has at first
abbrev pub zero_of : ValueType → Datum
zero_of (type.Number k) = from_bits_of k 0
zero_of _ = datum.Null

-- pointers are equal where both are null or point to one object
abbrev pub same_pointer : Datum → Datum → Bool
same_pointer datum.Null datum.Null = true
same_pointer (datum.Pointer a) (datum.Pointer b) = nat_eq a.0 b.0
same_pointer _ _ = false

-- `==` and `!=`, the only operators on two pointers
abbrev pub compared_as : BinOp → Bool → Datum
compared_as op.Equal same = truth_value same
compared_as _ same = truth_value (not same)

-- ---- values of a frame, the last at the head

-- the last, or 0
abbrev pub first : List Datum → Datum
first [] = from_bits_of kind.I32 0
first (v ∷ vs) = v

abbrev pub rest : List Datum → List Datum
rest [] = []
rest (v ∷ vs) = vs
