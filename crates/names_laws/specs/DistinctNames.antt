-- Names, each once: the distinct ones in order of first sight, each with the place where it stands first.
use Rattle.std.specs.Prelude.{◌≡◌, ◌≢◌, ℕ, ◌≤◌, not, nat_eq, Bool, List, [], ◌∷◌, length, Option, None, option_map}
use Rattle.std.specs.List.{find, filter, AllPairs}
use Rattle.agxx_base.specs.declared.ids.NameId.{NameId}
use Rattle.agxx_base.specs.declared.place.Place.{Place}
use Rattle.cxx_tree.specs.declared.node.Placed.{Placed}
use Rattle.cxx_tree.specs.ProgramTree.{ProgramTree}
use Rattle.cxx_names.specs.Tables.{named}
use Rattle.cxx_distinct.specs.NamesIn.{names_in_program}
use Rattle.cxx_distinct.specs.Sights.{first_sights, name_past}

-- the number of a name, and a place of it
abbrev pub Sight : Type 0
Sight = ℕ × Place

abbrev pub sight : Placed NameId → Sight
sight n = (n.item.0, n.at)

abbrev pub is_other : ℕ → Sight → Bool
is_other name s = not (nat_eq name s.0)

-- the first name, and then the others without it
abbrev pub each_once : List (Placed NameId) → List Sight
each_once [] = []
each_once (n ∷ ns) = sight n ∷ filter (is_other n.item.0) (each_once ns)

-- where a name stands first
abbrev pub first_place : List (Placed NameId) → ℕ → Option Place
first_place ns name = option_map (λ (n : Placed NameId). n.at) (find (λ (n : Placed NameId). nat_eq name n.item.0) ns)

pub record DistinctNamesAreEachOnce : Type 0 where
  pub of_names : (ns : List (Placed NameId)) → first_sights ns ≡ each_once ns
  -- no name has two entries
  pub apart : (ns : List (Placed NameId)) → AllPairs (λ s t. s.0 ≢ t.0) (first_sights ns)
  -- a name has an entry exactly where it stands, with its first place
  pub of_name : (ns : List (Placed NameId)) (name : ℕ) → named (first_sights ns) name ≡ first_place ns name
  -- a name is past a limit exactly where there are more distinct ones
  pub within : (q : ProgramTree) (limit : ℕ) → length (each_once (names_in_program q)) ≤ limit → name_past limit q ≡ None
  pub no_more : (q : ProgramTree) (limit : ℕ) → name_past limit q ≡ None → length (each_once (names_in_program q)) ≤ limit
