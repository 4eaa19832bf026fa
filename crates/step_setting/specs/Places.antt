-- Places of the names of a list.
use Rattle.std.specs.Prelude.{ℕ, suc, List, [], ◌∷◌, Option, Some, None}
use Rattle.cxx_names.specs.Tables.{named, with_name}
use Rattle.step_setting.specs.declared.places.Places.{Places}

abbrev pub no_places : ℕ → Places
no_places start = record { found = []; end = start }

abbrev pub with_place : Places → ℕ → Places
with_place p name = record { found = with_name p.found name p.end; end = suc p.end }

abbrev pub with_places : Places → List ℕ → Places
with_places p [] = p
with_places p (name ∷ names) = with_places (with_place p name) names

-- the places of the names of a list, numbered from a start on
abbrev pub places : ℕ → List ℕ → Places
places start names = with_places (no_places start) names

abbrev pub number_or : Option ℕ → ℕ → ℕ
number_or None end = end
number_or (Some number) end = number

-- the number of a name, and the number after the last where the name does not stand in the list
abbrev pub number_in : Places → ℕ → ℕ
number_in p name = number_or (named p.found name) p.end
