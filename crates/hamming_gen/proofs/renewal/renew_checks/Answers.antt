use Rattle.hamming_gen.specs.HammingTrees.{renew_check}
use Rattle.hamming_gen.proofs.Statements.{next_statement}
use Rattle.hamming_gen.proofs.renewal.renew_checks.Goals as goal

pub loop-check-preserved : goal.loop-check-preserved
loop-check-preserved c =
    next_statement (renew_check c.args.maker.at c.args.words.now) c.args.checks.now c.loop-check.check-index _ _ _ _ _
    c.loop-check-test.true c.in_ok-renew_check.ensures c.in_ok-push.ensures.ok c.loop-check.invariant
