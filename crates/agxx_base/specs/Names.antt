-- Names: distinct texts in order of first sight.
use Rattle.std.specs.Prelude.{ℕ, ◌≢◌, Bool, List, [], ◌∷◌, ◌++◌, if◌then◌else◌, AllPairs}
use Rattle.std.specs.List.{list_any, position_or_len}
use Rattle.std.specs.Str.{bytes_eq}

-- no text stands in the list twice
abbrev pub IsDistinct : List (List ℕ) → Type 0
IsDistinct names = AllPairs (λ one other. one ≢ other) names

-- the number of a text: its place in the list, or the list's length where it is new
abbrev pub number_of : List (List ℕ) → List ℕ → ℕ
number_of names text = position_or_len (bytes_eq text) names

-- whether a text has a number
abbrev pub is_known : List (List ℕ) → List ℕ → Bool
is_known names text = list_any (bytes_eq text) names

-- the list once the text has a number: a new text goes to its end
abbrev pub interned : List (List ℕ) → List ℕ → List (List ℕ)
interned names text = if is_known names text then names else names ++ text ∷ []
