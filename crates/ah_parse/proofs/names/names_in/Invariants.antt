use Rattle.std.proofs.Common.{◌≡◌, drop, fold}
use Rattle.agxx_base.specs.Names.{interned}
use Rattle.cxx_lex.specs.TokList.{tokens_of}
use Rattle.ah_parse.specs.GuardFiles.{names_in, names_among}
use Rattle.ah_parse.proofs.names.names_in.Given as goal

abbrev pub invariant-loop-tok : goal.invariant-loop-tok
invariant-loop-tok l = fold interned l.names (names_among (tokens_of (drop l.tok-index l.toks.items))) ≡ names_in (tokens_of l.toks.items)
