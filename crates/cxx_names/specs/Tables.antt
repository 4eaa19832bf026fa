-- What names stand for: names by their numbers with things, in order of declaration.
use Rattle.std.specs.Prelude.{ℕ, List, [], ◌∷◌, ◌++◌, Option, Some, None, slice_get, nat_eq, is_some, if◌then◌else◌}
use Rattle.std.specs.Map.{lookup}

module _ {V : Type 0} where
  -- what a name stands for
  abbrev pub named : List (ℕ × V) → ℕ → Option V
  named es name = lookup (nat_eq name) es

  abbrev pub thing_by : Option (ℕ × V) → Option V
  thing_by None = None
  thing_by (Some entry) = Some entry.1

  -- what the name at an index stands for
  abbrev pub thing_at : List (ℕ × V) → ℕ → Option V
  thing_at es index = thing_by (slice_get es index)

  -- a name that stands for nothing yet stands for a thing
  abbrev pub with_name : List (ℕ × V) → ℕ → V → List (ℕ × V)
  with_name es name thing = if is_some (named es name) then es else es ++ (name, thing) ∷ []
