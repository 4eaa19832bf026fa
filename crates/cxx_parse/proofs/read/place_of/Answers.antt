use Rattle.std.proofs.Common.{length, ◌-◌}
use Rattle.cxx_parse.proofs.Whole.{place-left}
use Rattle.cxx_parse.proofs.read.place_of.Goals as goal

pub returns-in-len1-up : goal.returns-in-len1-up
returns-in-len1-up c =
    place-left c.args.words.now (length c.args.words.now - c.args.left) (length c.args.words.now - (length c.args.words.now - c.args.left)) _ c.args.end c.in-len1-up.len_at_least
