use Rattle.hamming_gen.specs.HammingTrees.{extend}
use Rattle.hamming_gen.proofs.Statements.{next_statement}
use Rattle.hamming_gen.proofs.repair.extend_each.Goals as goal

pub loop-member-preserved : goal.loop-member-preserved
loop-member-preserved c =
    next_statement (extend c.args.maker.at) c.args.members.now c.loop-member.member-index _ _ _ _ _
    c.loop-member-test.true c.in_ok-extend.ensures c.in_ok-push.ensures.ok c.loop-member.invariant
