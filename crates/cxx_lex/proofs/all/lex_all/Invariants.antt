use Rattle.std.proofs.Common.{length}
use Rattle.cxx_lex.specs.Place.{start_of}
use Rattle.cxx_lex.specs.TokList.{tokens_of}
use Rattle.cxx_lex.proofs.Stepping.{IsReading}
use Rattle.cxx_lex.proofs.all.lex_all.Given as goal

abbrev pub invariant-steps : goal.invariant-steps
invariant-steps l = IsReading l.fn.mode (start_of l.fn.file) l.text (tokens_of l.toks.items) l.lexer

abbrev pub decreases-steps : goal.decreases-steps
decreases-steps l = length l.lexer.text
