-- Classes of bytes.
use Rattle.std.specs.Prelude.{ℕ, Bool, false, not, ◌||◌, ◌&&◌, ◌==◌, nat_le, List, [], ◌∷◌}

-- a byte from low to high
abbrev pub is_within : ℕ → ℕ → ℕ → Bool
is_within low high b = nat_le low b && nat_le b high

-- space, tab, form feed, CR
abbrev pub is_space : ℕ → Bool
is_space b = b == 32 || b == 9 || b == 12 || b == 13

abbrev pub is_blank : ℕ → Bool
is_blank b = is_space b || b == 10

-- a letter or an underscore
abbrev pub is_letter : ℕ → Bool
is_letter b = is_within 97 122 b || is_within 65 90 b || b == 95

abbrev pub is_digit : ℕ → Bool
is_digit b = is_within 48 57 b

-- a byte of a name behind its first
abbrev pub is_part : ℕ → Bool
is_part b = is_letter b || is_digit b

abbrev pub is_hexadecimal : ℕ → Bool
is_hexadecimal b = is_digit b || is_within 97 102 b || is_within 65 70 b

-- x or X
abbrev pub is_x : ℕ → Bool
is_x b = b == 120 || b == 88

-- a byte that stands for itself in a string: 32 to 126, but no quote and no backslash
abbrev pub is_plain : ℕ → Bool
is_plain b = is_within 32 126 b && (not (b == 34) && not (b == 92))

-- n, t, a backslash or a quote
abbrev pub is_escape : ℕ → Bool
is_escape b = b == 110 || b == 116 || b == 92 || b == 34

abbrev pub is_in_line : ℕ → Bool
is_in_line b = not (b == 10)

abbrev pub begins_with : ℕ → List ℕ → Bool
begins_with a [] = false
begins_with a (b ∷ bs) = b == a

-- whether the two bytes stand side by side somewhere
abbrev pub has_pair : ℕ → ℕ → List ℕ → Bool
has_pair a b [] = false
has_pair a b (c ∷ cs) = (c == a && begins_with b cs) || has_pair a b cs

abbrev pub opens_comment : ℕ → ℕ → Bool
opens_comment b c = b == 47 && (c == 47 || c == 42)

-- whether `//` or `/*` stands here
abbrev pub begins_comment : List ℕ → Bool
begins_comment [] = false
begins_comment (b ∷ []) = false
begins_comment (b ∷ c ∷ bs) = opens_comment b c
