use Rattle.std.proofs.Common.{subst}
use Rattle.guards.specs.declared.guard.GuardKind.TheVariants.{Hamming}
use Rattle.ah_parse.specs.Aspects.{heading}
use Rattle.ah_parse.specs.Descent.{NeverBegins}
use Rattle.ah_parse.proofs.Parts.{neither}
use Rattle.ah_parse.proofs.reader.Reader.opening.Goals as goal

pub returns-else-pass_opening-2 : goal.returns-else-pass_opening-2
returns-else-pass_opening-2 c =
    neither c.args.self.now c.if-pass_opening.ensures
    (subst (NeverBegins (heading Hamming)) c.self.view_is c.if-pass_opening-2.ensures)
