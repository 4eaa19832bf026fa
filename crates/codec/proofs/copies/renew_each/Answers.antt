use Rattle.codec.proofs.Walks.{next_renewed}
use Rattle.codec.proofs.copies.renew_each.Goals as goal

pub loop-member-preserved : goal.loop-member-preserved
loop-member-preserved c =
    next_renewed c.args.names.now c.args.maker.at c.args.members.now c.loop-member.member-index _ _ _ _ c.loop-member-test.true c.in_ok-renew_member.ensures c.loop-member.invariant
