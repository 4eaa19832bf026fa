-- Which whole number a value is, and the value of a whole number in a kind.
use Rattle.std.specs.Prelude.{ℕ, ◌-◌, ◌%◌, ◌^◌, ◌<◌, nat_lt, Bool, not, if◌then◌else◌, ℤ, pos, ◌-ℤ◌, unsigned_abs}
use Rattle.std.specs.Int.{int_rem_euclid}
use Rattle.std.specs.Ordering.{int_eq}
use Rattle.agxx_base.specs.declared.kind.NumKind.{NumKind}
use Rattle.agxx_base.specs.declared.kind.NumKind.TheVariants as num
use Rattle.cxx_arith.specs.declared.value.Value.{Value}
use Rattle.cxx_arith.specs.Kinds.{width, is_signed}

-- what is left of a whole number by 2^n, from 0 on
abbrev pub modulo : ℕ → ℤ → ℕ
modulo n z = unsigned_abs (int_rem_euclid z (pos (2 ^ n)))

-- n bits in two's complement
abbrev pub signed_number : ℕ → ℕ → ℤ
signed_number n bits = if nat_lt bits (2 ^ (n - 1)) then pos bits else pos bits -ℤ pos (2 ^ n)

abbrev pub number_of : NumKind → ℕ → ℤ
number_of kind bits = if is_signed kind then signed_number (width kind) bits else pos bits

-- the number that a value is; bits above those of its kind don't count
abbrev pub number : Value → ℤ
number value = number_of value.kind (value.bits % 2 ^ width value.kind)

-- no bit is set above those of the kind
abbrev pub IsInRange : Value → Type 0
IsInRange value = value.bits < 2 ^ width value.kind

-- a whole number modulo 2^N in a kind of N bits
abbrev pub value_of : NumKind → ℤ → Value
value_of kind z = record { kind = kind; bits = modulo (width kind) z }

abbrev pub flag : Bool → Value
flag b = record { kind = num.Bool; bits = if b then 1 else 0 }

-- the value in another kind
abbrev pub convert_of : NumKind → Value → Value
convert_of num.Bool value = flag (not (int_eq (number value) (pos 0)))
convert_of kind value = value_of kind (number value)
