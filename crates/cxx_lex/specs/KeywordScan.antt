-- Keywords by their length.
use Rattle.std.specs.Prelude.{ℕ, map, if◌then◌else◌, ◌==◌, List, [], ◌∷◌, length, Option}
use Rattle.std.proofs.Common.{Bor}
use Rattle.agxx_base.specs.declared.vocabulary.Keyword.{Keyword}
use Rattle.cxx_lex.specs.Words.{keywords, entry_of}

-- the entries whose texts have n bytes
abbrev pub of_length : {A : Type 0} → ℕ → List (List ℕ × A) → List (List ℕ × A)
of_length n [] = []
of_length n (e ∷ es) = if length e.0 == n then e ∷ of_length n es else of_length n es

abbrev pub keyword_among : ℕ → List ℕ → Option Keyword
keyword_among n text = entry_of (of_length n keywords) text

-- a table of borrowed texts, as the list that it is
abbrev pub entries_of : List (Bor (List ℕ) × Keyword) → List (List ℕ × Keyword)
entries_of entries = map (λ e. (e.0.now, e.1)) entries
