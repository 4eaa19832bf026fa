-- The number at the front of a text.
use Rattle.std.specs.Prelude.{ℕ, suc, Bool, false, ◌&&◌, ◌+◌, ◌^◌, nat_lt, Option, Some, None, if◌then◌else◌, ◌==◌, List, [], ◌∷◌, take, drop}
use Rattle.cxx_lex.specs.declared.tok.Lexeme.{Lexeme}
use Rattle.cxx_lex.specs.declared.numbers.Base.{Base}
use Rattle.cxx_lex.specs.declared.numbers.Base.TheVariants.{Decimal, Hexadecimal}
use Rattle.cxx_lex.specs.declared.numbers.Suffix.{Suffix}
use Rattle.cxx_lex.specs.declared.numbers.Suffix.TheVariants as suffix
use Rattle.cxx_lex.specs.Bytes.{is_digit, is_hexadecimal, is_x, begins_with}
use Rattle.cxx_lex.specs.Numbers.{in_base, number_verdict}
use Rattle.cxx_lex.specs.Runs.{run}

-- whether `0x` and a hexadecimal digit stand here
abbrev pub is_prefixed : List ℕ → Bool
is_prefixed [] = false
is_prefixed (a ∷ []) = false
is_prefixed (a ∷ x ∷ []) = false
is_prefixed (a ∷ x ∷ b ∷ bs) = a == 48 && (is_x x && is_hexadecimal b)

abbrev pub base_at : List ℕ → Base
base_at text = if is_prefixed text then Hexadecimal else Decimal

abbrev pub digits_len : List ℕ → ℕ
digits_len text = if is_prefixed text then suc (suc (run is_hexadecimal (drop 2 text))) else (if begins_with 48 text then 1 else run is_digit text)

abbrev pub digits_value : Base → List ℕ → ℕ
digits_value Decimal digits = in_base 10 digits
digits_value Hexadecimal digits = in_base 16 (drop 2 digits)

-- a value where it is below 2^64
abbrev pub held : ℕ → Option ℕ
held value = if nat_lt value (2 ^ 64) then Some value else None

-- whether the byte stands here twice
abbrev pub begins_twice : ℕ → List ℕ → Bool
begins_twice a [] = false
begins_twice a (b ∷ bs) = b == a && begins_with a bs

abbrev pub suffix_at : List ℕ → Suffix
suffix_at [] = suffix.Plain
suffix_at (b ∷ bs) =
    if b == 117 then (if begins_twice 108 bs then suffix.Ull else suffix.U)
    else (if b == 85 then (if begins_twice 76 bs then suffix.Ull else suffix.U)
    else (if begins_twice 108 (b ∷ bs) then suffix.Ll else (if begins_twice 76 (b ∷ bs) then suffix.Ll else suffix.Plain)))

abbrev pub suffix_len : Suffix → ℕ
suffix_len suffix.Plain = 0
suffix_len suffix.U = 1
suffix_len suffix.Ll = 2
suffix_len suffix.Ull = 3

abbrev pub suffixed_lexeme : Base → ℕ → ℕ → Suffix → Lexeme
suffixed_lexeme base value n ending = record { kind = number_verdict base value ending; len = n + suffix_len ending }

unfoldable pub number_lexeme : List ℕ → Lexeme
number_lexeme text =
    suffixed_lexeme (base_at text) (digits_value (base_at text) (take (digits_len text) text)) (digits_len text) (suffix_at (drop (digits_len text) text))
