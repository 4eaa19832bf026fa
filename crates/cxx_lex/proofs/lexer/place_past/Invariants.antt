use Rattle.std.proofs.Common.{◌≡◌, ◌≤◌, ◌+◌, take}
use Rattle.cxx_lex.specs.Place.{place_after}
use Rattle.cxx_lex.proofs.lexer.place_past.Given as goal

abbrev pub invariant-loop-b : goal.invariant-loop-b
invariant-loop-b l = (l.now ≡ place_after l.fn.at (take l.b-index l.text)) × (l.now.line ≤ l.fn.at.line + l.b-index) × (l.now.column ≤ l.fn.at.column + l.b-index)
