use Rattle.plan_runs.proofs.Filed.{files-at}
use Rattle.plan_runs.proofs.moments.file_all.Goals as goal

pub loop-flip-preserved : goal.loop-flip-preserved
loop-flip-preserved g c = files-at _ _ _ _ _ _ _ c.loop-flip-test.true c.loop-flip.invariant c.in_ok-file.ensures
