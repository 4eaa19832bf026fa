use Rattle.codec.proofs.Walks.{next_repaired}
use Rattle.codec.proofs.copies.repair_each.Goals as goal

pub loop-index-preserved : goal.loop-index-preserved
loop-index-preserved c =
    next_repaired c.args.names.now c.args.maker.at c.args.members.now c.loop-index.index _ _ _ _ c.loop-index-test.true c.in_ok-repair_member.ensures c.loop-index.invariant
