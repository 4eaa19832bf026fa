use Rattle.cxx_lex.proofs.StringCut.{reads_quoted}
use Rattle.cxx_lex.proofs.laws.literals_are_read.Goals as goal

pub returns : goal.returns
returns c = reads_quoted
