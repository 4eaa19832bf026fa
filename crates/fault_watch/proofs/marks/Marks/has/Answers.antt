use Rattle.std.proofs.Common.{ap, ◌∙◌}
use Rattle.fault_watch.specs.MarkSets.{MarkSet, has}
use Rattle.fault_watch.proofs.MarkSets.{has-is}
use Rattle.fault_watch.proofs.marks.Marks.has.Goals as goal

pub returns : goal.returns
returns c =
    c.contains.ensures ∙ has-is c.self.inside.parts.keys c.args.object.0 c.args.class
    ∙ ap (λ (keys : MarkSet). has keys c.args.object.0 c.args.class) c.self.view_is
