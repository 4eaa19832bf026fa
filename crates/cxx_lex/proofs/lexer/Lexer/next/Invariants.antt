use Rattle.std.proofs.Common.{length}
use Rattle.cxx_lex.specs.Left.{left_of}
use Rattle.cxx_lex.proofs.Stepping.{IsBehindGaps}
use Rattle.cxx_lex.proofs.lexer.Lexer.next.Given as goal

abbrev pub invariant-gaps : goal.invariant-gaps
invariant-gaps l = IsBehindGaps l.fn.self (left_of l.self-inside) l.at l.left

abbrev pub decreases-gaps : goal.decreases-gaps
decreases-gaps l = length l.left
