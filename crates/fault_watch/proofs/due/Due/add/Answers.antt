use Rattle.std.proofs.Common.{◌∙◌, ap}
use Rattle.std.specs.Map.{values_of}
use Rattle.fault_lines.specs.Due.{insert_in_order}
use Rattle.fault_watch.proofs.Dues.{entry-inserted, still-numbered}
use Rattle.fault_watch.proofs.due.Due.add.Goals as goal

pub invariant_of-self-2 : goal.invariant_of-self-2
invariant_of-self-2 c = rw c.in_ok-insert.ensures.entries (still-numbered c.args.flip _ c.self.invariant)

pub returns-clause-value : goal.returns-clause-value
returns-clause-value c =
    ap values_of c.in_ok-insert.ensures.entries ∙ entry-inserted c.args.flip c.self.inside.lines.entries c.self.invariant
    ∙ ap (insert_in_order c.args.flip) c.self.view_is
