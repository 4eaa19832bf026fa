use Rattle.hamming_gen.specs.HammingTrees.{mend_check}
use Rattle.hamming_gen.proofs.Statements.{next_statement}
use Rattle.hamming_gen.proofs.repair.mend_checks.Goals as goal

pub loop-check-preserved : goal.loop-check-preserved
loop-check-preserved c =
    next_statement (mend_check c.args.maker.at) c.args.checks.now c.loop-check.check-index _ _ _ _ _
    c.loop-check-test.true c.in_ok-mend_check.ensures c.in_ok-push.ensures.ok c.loop-check.invariant
