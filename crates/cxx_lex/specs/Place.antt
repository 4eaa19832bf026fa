-- Where a byte stands.
use Rattle.std.specs.Prelude.{ℕ, ◌+◌, if◌then◌else◌, ◌==◌, List, fold}
use Rattle.agxx_base.specs.declared.place.Place.{Place}

abbrev pub start_of : ℕ → Place
start_of file = record { file = file; line = 1; column = 1 }

-- the place behind a byte: a newline ends its line
abbrev pub next_place : Place → ℕ → Place
next_place at b = if b == 10 then record { file = at.file; line = at.line + 1; column = 1 } else record { file = at.file; line = at.line; column = at.column + 1 }

-- the place behind a text that begins at this place
abbrev pub place_after : Place → List ℕ → Place
place_after at text = fold next_place at text
