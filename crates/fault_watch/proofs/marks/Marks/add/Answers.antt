use Rattle.std.proofs.Common.{ap, ◌∙◌}
use Rattle.fault_lines.specs.Marks.{with_mark}
use Rattle.fault_watch.specs.MarkSets.{MarkSet, has}
use Rattle.fault_watch.proofs.MarkSets.{added}
use Rattle.fault_watch.proofs.marks.Marks.add.Goals as goal

pub returns-clause-ok : goal.returns-clause-ok
returns-clause-ok c =
    added c.self.inside.parts.keys c.insert.new.self.keys c.args.object.0 c.args.class c.in_ok-insert.ensures.updates.0
    ∙ ap (λ (keys : MarkSet). with_mark c.args.object.0 c.args.class (has keys)) c.self.view_is
