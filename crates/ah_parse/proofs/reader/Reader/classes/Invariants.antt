use Rattle.std.proofs.Common.{length}
use Rattle.ah_parse.proofs.Classes.{WereRead}
use Rattle.ah_parse.proofs.reader.Reader.classes.Given as goal

abbrev pub invariant-classes : goal.invariant-classes
invariant-classes l = WereRead l.classes l.fn.self l.self

abbrev pub decreases-classes : goal.decreases-classes
decreases-classes l = length l.self
