use Rattle.std.proofs.Common.{◌≡◌, List, subst}
use Rattle.std.proofs.lemmas.Result.{on_ok_weaker}
use Rattle.flip_plan.specs.declared.flip.PlannedFlip.{PlannedFlip}
use Rattle.step_machine.specs.Total.{reading}
use Rattle.plan_runs.specs.Watches.{FilesLines}
use Rattle.plan_runs.proofs.Falls.{takes-flips, counts-stay-filed}
use Rattle.plan_runs.proofs.moments.take_flips.Goals as goal

pub returns-clause-takes : goal.returns-clause-takes
returns-clause-takes g c =
    on_ok_weaker c.file_all.result
    (λ (h : FilesLines (reading c.go_through.new.engine) c.as_slice.result.now c.go_through.new.watch c.file_all.new.watch).
    takes-flips c.args.turn c.args.engine.now c.args.watch.now c.gather.new.self c.go_through.new.engine c.go_through.new.watch
    c.file_all.new.watch c.in_ok-kept.kept.items c.in_ok-gather.ensures c.in_ok-kept.ensures.goes c.in_ok-kept.ensures.queues
    (subst (λ (x : List PlannedFlip). FilesLines (reading c.go_through.new.engine) x c.go_through.new.watch c.file_all.new.watch)
    c.as_slice.ensures.value h))
    c.file_all.ensures

pub returns-clause-counts : goal.returns-clause-counts
returns-clause-counts g c =
    on_ok_weaker c.file_all.result
    (λ (h : FilesLines (reading c.go_through.new.engine) c.as_slice.result.now c.go_through.new.watch c.file_all.new.watch).
    counts-stay-filed c.args.turn (reading c.go_through.new.engine) c.args.watch.now c.gather.new.self c.go_through.new.watch
    c.file_all.new.watch c.as_slice.result.now c.in_ok-gather.ensures c.in_ok-kept.ensures.counts h)
    c.file_all.ensures
