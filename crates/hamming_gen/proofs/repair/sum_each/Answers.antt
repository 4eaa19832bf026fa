use Rattle.hamming_gen.specs.HammingTrees.{sum_local}
use Rattle.hamming_gen.proofs.Statements.{next_statement}
use Rattle.hamming_gen.proofs.repair.sum_each.Goals as goal

pub loop-check-preserved : goal.loop-check-preserved
loop-check-preserved c =
    next_statement (sum_local c.args.maker.at c.args.words.now) c.args.checks.now c.loop-check.check-index _ _ _ _ _
    c.loop-check-test.true c.in_ok-sum_local.ensures c.in_ok-push.ensures.ok c.loop-check.invariant
