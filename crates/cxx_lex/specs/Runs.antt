-- Fronts of a text of one class of bytes, and the end of a comment.
use Rattle.std.specs.Prelude.{ℕ, suc, Bool, false, ◌&&◌, if◌then◌else◌, ◌==◌, List, [], ◌∷◌, Option, Some, None}
use Rattle.cxx_lex.specs.declared.bytes.Class.{Class}
use Rattle.cxx_lex.specs.declared.bytes.Class.TheVariants as class
use Rattle.cxx_lex.specs.Bytes.{is_space, is_part, is_digit, is_hexadecimal, is_in_line}

abbrev pub has : Class → ℕ → Bool
has class.Space = is_space
has class.Part = is_part
has class.Digit = is_digit
has class.Hexadecimal = is_hexadecimal
has class.InLine = is_in_line

-- how many bytes of this class the text begins with
abbrev pub run : (ℕ → Bool) → List ℕ → ℕ
run p [] = 0
run p (b ∷ bs) = if p b then suc (run p bs) else 0

abbrev pub one_more : Option ℕ → Option ℕ
one_more None = None
one_more (Some n) = Some (suc n)

-- whether `*/` stands here
abbrev pub closes : List ℕ → Bool
closes [] = false
closes (b ∷ []) = false
closes (b ∷ c ∷ cs) = b == 42 && c == 47

-- how many bytes there are to the end of the first `*/`
abbrev pub close_len : List ℕ → Option ℕ
close_len [] = None
close_len (b ∷ bs) = if closes (b ∷ bs) then Some 2 else one_more (close_len bs)
