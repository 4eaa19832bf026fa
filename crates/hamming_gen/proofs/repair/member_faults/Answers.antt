use Rattle.hamming_gen.specs.HammingTrees.{member_fault}
use Rattle.hamming_gen.proofs.Statements.{next_statement}
use Rattle.hamming_gen.proofs.repair.member_faults.Goals as goal

pub loop-member-preserved : goal.loop-member-preserved
loop-member-preserved c =
    next_statement (member_fault c.args.maker.at c.args.words.now) c.args.members.now c.loop-member.member-index _ _ _ _ _
    c.loop-member-test.true c.in_ok-member_fault.ensures c.in_ok-push.ensures.ok c.loop-member.invariant
