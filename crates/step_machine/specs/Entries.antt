-- Lists of entries: things by numbers. An entry that is new goes to the end.
use Rattle.std.specs.Prelude.{ℕ, nat_eq, List, [], ◌∷◌, Option, if◌then◌else◌}
use Rattle.std.specs.Map.{lookup, remove_entry}

module _ {A : Type 0} where
  abbrev pub entry : List (ℕ × A) → ℕ → Option A
  entry entries key = lookup (nat_eq key) entries

  abbrev pub with_entry : List (ℕ × A) → ℕ → A → List (ℕ × A)
  with_entry [] key item = (key, item) ∷ []
  with_entry (e ∷ es) key item = if nat_eq key e.0 then (e.0, item) ∷ es else e ∷ with_entry es key item

  abbrev pub without_entry : List (ℕ × A) → ℕ → List (ℕ × A)
  without_entry entries key = remove_entry (nat_eq key) entries
