use Rattle.std.proofs.Common.{ap, ◌∙◌}
use Rattle.fault_watch.specs.MarkSets.{MarkSet, has, without_mark}
use Rattle.fault_watch.proofs.MarkSets.{removed}
use Rattle.fault_watch.proofs.marks.Marks.remove.Goals as goal

pub returns : goal.returns
returns c =
    removed c.self.inside.parts.keys c.remove.new.self.keys c.args.object.0 c.args.class c.remove.ensures.updates.0
    ∙ ap (λ (keys : MarkSet). without_mark c.args.object.0 c.args.class (has keys)) c.self.view_is
