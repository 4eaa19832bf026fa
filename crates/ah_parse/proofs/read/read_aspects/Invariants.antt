use Rattle.std.proofs.Common.{length}
use Rattle.cxx_lex.specs.TokList.{tokens_of}
use Rattle.ah_parse.specs.GuardFiles.{GrowsTo}
use Rattle.ah_parse.proofs.Files.{WereRead}
use Rattle.ah_parse.proofs.read.read_aspects.Given as goal

abbrev pub invariant-aspects : goal.invariant-aspects
invariant-aspects l = record {
  read : WereRead l.fn.taken l.taken l.aspects (tokens_of l.toks) l.reader;
  grows : GrowsTo l.fn.taken l.taken;
}

abbrev pub decreases-aspects : goal.decreases-aspects
decreases-aspects l = length l.reader
