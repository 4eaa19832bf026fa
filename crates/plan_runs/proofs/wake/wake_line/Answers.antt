use Rattle.std.proofs.Common.{◌-◌, length, map, sym, ap, arith}
use Rattle.std.proofs.lemmas.List.{length-map}
use Rattle.cxx_core.specs.ProgramView.{class_core, program_core}
use Rattle.plan_runs.proofs.WokenLines.{up-start, up-done, up-on, none-of-none, none-beyond, classes-are}
use Rattle.plan_runs.proofs.wake.wake_line.Goals as goal

pub loop-init : goal.loop-init
loop-init g c =
    up-start c.args.engine.now c.args.object.0 (map class_core c.as_slice-classes.result.now) (length c.as_slice-classes.result.now)
    (length c.as_slice-classes.result.now - 0) c.args.own c.args.watch.now (omega arith)

pub returns-in_default : goal.returns-in_default
returns-in_default g c =
    let classes = map class_core c.as_slice-classes.result.now in
    let n = length c.as_slice-classes.result.now in
    up-done c.args.engine.now c.args.object.0 classes n c.args.own (n - c.loop.counter) c.loop.next c.args.watch.now c.loop.watch
    c.loop.invariant (none-of-none classes (n - c.loop.counter) c.loop.next c.in_default.is)
    (classes-are c.args.engine.now c.setting.result.now (program_core c.program.result.now) classes c.setting.ensures c.program.ensures
    (ap (map class_core) c.as_slice-classes.ensures)) (length-map c.as_slice-classes.result.now class_core)

pub returns-in_default-class_at : goal.returns-in_default-class_at
returns-in_default-class_at g c =
    let classes = map class_core c.as_slice-classes.result.now in
    let n = length c.as_slice-classes.result.now in
    up-done c.args.engine.now c.args.object.0 classes n c.args.own (n - c.loop.counter) c.loop.next c.args.watch.now c.loop.watch
    c.loop.invariant (none-beyond classes (n - c.loop.counter) c.loop.next c.in-Some.class c.in-Some.is (sym c.in_default-class_at.ensures))
    (classes-are c.args.engine.now c.setting.result.now (program_core c.program.result.now) classes c.setting.ensures c.program.ensures
    (ap (map class_core) c.as_slice-classes.ensures)) (length-map c.as_slice-classes.result.now class_core)

pub loop-preserved : goal.loop-preserved
loop-preserved g c =
    up-on c.args.engine.now c.args.object.0 (map class_core c.as_slice-classes.result.now) (length c.as_slice-classes.result.now) c.args.own
    c.loop.counter c.loop.next c.args.watch.now c.loop.watch c.in-Some.class (class_core c.in-Some-class_at.found.now) c.wake_part.new.watch
    c.loop.invariant c.loop-test.true c.in-Some.is (sym c.in-Some-class_at.ensures) c.in_ok-wake_part.ensures
