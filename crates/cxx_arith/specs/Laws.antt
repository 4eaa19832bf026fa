-- What the definitions amount to.
use Rattle.std.specs.Prelude.{◌≡◌, IfOk, IsOk, MatchResult, Err, ◌^◌, Bool, IsTrue, ◌&&◌, if◌then◌else◌, ℤ, pos, int_le, int_lt}
use Rattle.agxx_base.specs.declared.kind.NumKind.{NumKind}
use Rattle.cxx_tree.specs.declared.operator.BinOp.{BinOp}
use Rattle.cxx_tree.specs.declared.operator.UnOp.{UnOp}
use Rattle.cxx_arith.specs.declared.value.Value.{Value}
use Rattle.cxx_arith.specs.Kinds.{width, is_signed}
use Rattle.cxx_arith.specs.Numbers.{number, value_of, convert_of, IsInRange}
use Rattle.cxx_arith.specs.Arithmetic.{is_held, quotient, remainder, apply_of, apply_one_of}

-- whether the kind has the number
abbrev pub has_number : NumKind → ℤ → Bool
has_number kind z = if is_signed kind then is_held kind z else (int_le (pos 0) z && int_lt z (pos (2 ^ width kind)))

abbrev pub NumbersAreKept : Type 0
NumbersAreKept = (kind : NumKind) (z : ℤ) → IsTrue (has_number kind z) → number (value_of kind z) ≡ z

abbrev pub ValuesAreKept : Type 0
ValuesAreKept = (value : Value) → IsInRange value → value_of value.kind (number value) ≡ value

pub record ResultsAreInRange : Type 0 where
  pub of_two : (op : BinOp) (left right : Value) → IfOk (apply_of op left right) IsInRange
  pub of_one : (op : UnOp) (arg : Value) → IfOk (apply_one_of op arg) IsInRange
  pub converted : (kind : NumKind) (value : Value) → IsInRange (convert_of kind value)

-- `%` stops where `/` does, and nowhere else
abbrev pub StopsTogether : Type 0
StopsTogether =
    (kind : NumKind) (a b : ℤ) → IsTrue (has_number kind a) → IsTrue (has_number kind b)
    → MatchResult (quotient kind a b) (λ _. IsOk (remainder kind a b)) (λ why. remainder kind a b ≡ Err why)
