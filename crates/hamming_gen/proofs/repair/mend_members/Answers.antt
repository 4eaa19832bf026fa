use Rattle.hamming_gen.specs.HammingTrees.{mend_member}
use Rattle.hamming_gen.proofs.Statements.{next_statement}
use Rattle.hamming_gen.proofs.repair.mend_members.Goals as goal

pub loop-member-preserved : goal.loop-member-preserved
loop-member-preserved c =
    next_statement (mend_member c.args.maker.at) c.args.members.now c.loop-member.member-index _ _ _ _ _
    c.loop-member-test.true c.in_ok-mend_member.ensures c.in_ok-push.ensures.ok c.loop-member.invariant
