use Rattle.std.proofs.Common.{take}
use Rattle.step_machine.specs.Total.{reading}
use Rattle.plan_runs.specs.Watches.{FilesLines}
use Rattle.plan_runs.proofs.moments.file_all.Given as goal

abbrev pub invariant-loop-flip : goal.invariant-loop-flip
invariant-loop-flip g l = FilesLines (reading l.engine) (take l.flip-index l.kept) l.initial.watch l.watch
