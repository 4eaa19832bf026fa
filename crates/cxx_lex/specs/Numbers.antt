-- Numbers.
use Rattle.std.specs.Prelude.{◌≡◌, ℕ, true, false, if◌then◌else◌, ◌==◌, ◌+◌, ◌-◌, ◌*◌, ◌^◌, nat_lt, List, [], ◌∷◌, ◌++◌, fold, codes, Option, Some, None, Result, Ok, Err}
use Rattle.std.specs.List.{list_all}
use Rattle.agxx_base.specs.declared.kind.NumKind.{NumKind}
use Rattle.agxx_base.specs.declared.kind.NumKind.TheVariants as num
use Rattle.agxx_base.specs.declared.rule.Rule.{Rule}
use Rattle.agxx_base.specs.declared.rule.Rule.TheVariants.{L3}
use Rattle.cxx_lex.specs.declared.tok.TokKind.{TokKind}
use Rattle.cxx_lex.specs.declared.tok.TokKind.TheVariants as kind
use Rattle.cxx_lex.specs.declared.numbers.Base.{Base}
use Rattle.cxx_lex.specs.declared.numbers.Base.TheVariants.{Decimal, Hexadecimal}
use Rattle.cxx_lex.specs.declared.numbers.Suffix.{Suffix}
use Rattle.cxx_lex.specs.declared.numbers.Suffix.TheVariants as suffix
use Rattle.cxx_lex.specs.Bytes.{is_within, is_digit, is_hexadecimal, is_x}
use Rattle.cxx_lex.specs.Words.{entry_of}

abbrev pub digit_value : ℕ → ℕ
digit_value b = if is_digit b then b - 48 else (if is_within 97 102 b then b - 97 + 10 else (if is_within 65 70 b then b - 65 + 10 else 0))

-- the number that digits stand for in a base
abbrev pub in_base : ℕ → List ℕ → ℕ
in_base radix digits = fold (λ n b. n * radix + digit_value b) 0 digits

-- the digits of a number in this base, of this value
pub data IsNumeral (base : Base) (value : ℕ) (text : List ℕ) : Type 0 where
  nought : base ≡ Decimal → value ≡ 0 → text ≡ codes "0" → IsNumeral base value text
  decimal : (first : ℕ) (more : List ℕ) → base ≡ Decimal → text ≡ first ∷ more → is_digit first ≡ true → (first == 48) ≡ false → list_all is_digit more ≡ true
      → value ≡ in_base 10 text → IsNumeral base value text
  hexadecimal : (x first : ℕ) (more : List ℕ) → base ≡ Hexadecimal → text ≡ 48 ∷ x ∷ first ∷ more → is_x x ≡ true → is_hexadecimal first ≡ true → list_all is_hexadecimal more ≡ true
      → value ≡ in_base 16 (first ∷ more) → IsNumeral base value text

abbrev pub suffixes : List (List ℕ × Suffix)
suffixes = (codes "ull", suffix.Ull) ∷ (codes "ULL", suffix.Ull) ∷ (codes "ll", suffix.Ll) ∷ (codes "LL", suffix.Ll) ∷ (codes "u", suffix.U) ∷ (codes "U", suffix.U) ∷ ([], suffix.Plain) ∷ []

-- digits and at most one suffix
pub record IsNumber (base : Base) (value : ℕ) (ending : Suffix) (text : List ℕ) : Type 0 where
  pub digits : List ℕ
  pub rest : List ℕ
  pub parts : text ≡ digits ++ rest
  pub numeral : IsNumeral base value digits
  pub suffix : entry_of suffixes rest ≡ Some ending

-- the kinds that a number may have, in the order in which they are tried
abbrev pub kinds_of : Base → Suffix → List NumKind
kinds_of Decimal suffix.Plain = num.I32 ∷ num.I64 ∷ []
kinds_of Decimal suffix.U = num.U32 ∷ num.U64 ∷ []
kinds_of Decimal suffix.Ll = num.I64 ∷ []
kinds_of Decimal suffix.Ull = num.U64 ∷ []
kinds_of Hexadecimal suffix.Plain = num.I32 ∷ num.U32 ∷ num.I64 ∷ num.U64 ∷ []
kinds_of Hexadecimal suffix.U = num.U32 ∷ num.U64 ∷ []
kinds_of Hexadecimal suffix.Ll = num.I64 ∷ num.U64 ∷ []
kinds_of Hexadecimal suffix.Ull = num.U64 ∷ []

-- the least number that a kind doesn't hold
abbrev pub bound_of : NumKind → ℕ
bound_of num.Bool = 2
bound_of num.I8 = 2 ^ 7
bound_of num.U8 = 2 ^ 8
bound_of num.I16 = 2 ^ 15
bound_of num.U16 = 2 ^ 16
bound_of num.I32 = 2 ^ 31
bound_of num.U32 = 2 ^ 32
bound_of num.I64 = 2 ^ 63
bound_of num.U64 = 2 ^ 64

-- the first of the kinds that holds the value
abbrev pub kind_for : ℕ → List NumKind → Option NumKind
kind_for value [] = None
kind_for value (k ∷ ks) = if nat_lt value (bound_of k) then Some k else kind_for value ks

abbrev pub by_kind : ℕ → Option NumKind → Result TokKind Rule
by_kind value (Some k) = Ok (kind.Number value k)
by_kind value None = Err L3

-- a number is its value and the first kind that holds it; where none does, it is too large
abbrev pub number_verdict : Base → ℕ → Suffix → Result TokKind Rule
number_verdict base value ending = by_kind value (kind_for value (kinds_of base ending))
