use Rattle.hamming_gen.specs.HammingTrees.{check_fault}
use Rattle.hamming_gen.proofs.Statements.{next_statement}
use Rattle.hamming_gen.proofs.repair.check_faults.Goals as goal

pub loop-check-preserved : goal.loop-check-preserved
loop-check-preserved c =
    next_statement (check_fault c.args.maker.at c.args.words.now) c.args.checks.now c.loop-check.check-index _ _ _ _ _
    c.loop-check-test.true c.in_ok-check_fault.ensures c.in_ok-push.ensures.ok c.loop-check.invariant
