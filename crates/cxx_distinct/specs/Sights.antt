-- The distinct names of a program: each with the place where it stands first.
use Rattle.std.specs.Prelude.{ℕ, List, [], ◌∷◌, Option}
use Rattle.agxx_base.specs.declared.ids.NameId.{NameId}
use Rattle.agxx_base.specs.declared.place.Place.{Place}
use Rattle.cxx_tree.specs.declared.node.Placed.{Placed}
use Rattle.cxx_tree.specs.ProgramTree.{ProgramTree}
use Rattle.cxx_names.specs.Tables.{with_name, thing_at}
use Rattle.cxx_distinct.specs.NamesIn.{names_in_program}

-- the first sights once names have been gone through: a name that was not seen before goes to their end with its place
abbrev pub seen : List (ℕ × Place) → List (Placed NameId) → List (ℕ × Place)
seen sights [] = sights
seen sights (n ∷ ns) = seen (with_name sights n.item.0 n.at) ns

-- the distinct names among names, each with its first place, in order
abbrev pub first_sights : List (Placed NameId) → List (ℕ × Place)
first_sights ns = seen [] ns

-- where the first name stands that is past so many distinct names, if there are more than that
abbrev pub name_past : ℕ → ProgramTree → Option Place
name_past limit q = thing_at (first_sights (names_in_program q)) limit
