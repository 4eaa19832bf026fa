use Rattle.std.proofs.Common.{length}
use Rattle.ah_parse.proofs.reader.Reader.+pass_all.Given as goal

abbrev pub decreases-pass_all : goal.decreases-pass_all
decreases-pass_all l = length l.words.now
