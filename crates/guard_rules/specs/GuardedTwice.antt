-- P4: an aspect guards a class of the program that another aspect guards first. The place is the later aspect's name. An
-- aspect that names a class twice guards it once.
use Rattle.std.specs.Prelude.{Bool, false, not, List, Option, Some, None, is_some, nat_eq, if◌then◌else◌}
use Rattle.agxx_base.specs.declared.place.Place.{Place}
use Rattle.cxx_names.specs.declared.declarations.Declared.{Declared}
use Rattle.cxx_names.specs.Declarations.{class_named}
use Rattle.guards.specs.declared.guard.Guard.{Guard}
use Rattle.guards.specs.Guarding.{guard_of}
use Rattle.guard_rules.specs.Parts.{place_where, places_of}

abbrev pub same_place : Place → Place → Bool
same_place a b = if nat_eq a.file b.file then (if nat_eq a.line b.line then nat_eq a.column b.column else false) else false

-- the first guard of a class is that of another aspect
abbrev pub is_later : Place → Option Guard → Bool
is_later at None = false
is_later at (Some first) = not (same_place first.at at)

abbrev pub later_at : List Guard → Declared → Guard → Option Place
later_at guards d g = place_where (if is_some (class_named d g.class.0) then is_later g.at (guard_of guards g.class) else false) g.at

abbrev pub guarded_twice : List Guard → Declared → List Place
guarded_twice guards d = places_of (later_at guards d) guards
