-- What a lexer has left.
use Rattle.std.specs.Prelude.{ℕ, ◌+◌, ◌<◌, ◌^◌, List, length}
use Rattle.agxx_base.specs.declared.kind.Mode.{Mode}
use Rattle.agxx_base.specs.declared.place.Place.{Place}
use Rattle.cxx_lex.specs.declared.lexer.Lexer.TheInside.{Inside}

pub record Left : Type 0 where
  pub mode : Mode
  pub at : Place
  pub text : List ℕ

abbrev pub left_of : Inside → Left
left_of l = record { mode = l.mode; at = l.at; text = l.left.now }

-- the places of this text can be counted in 32 bits
abbrev pub HasRoom : Place → List ℕ → Type 0
HasRoom at text = (at.line + length text < 2 ^ 32) × (at.column + length text < 2 ^ 32)

abbrev pub IsRoomy : Inside → Type 0
IsRoomy l = HasRoom l.at l.left.now
