use Rattle.std.proofs.Common.{◌≡◌, ◌∙◌, ◌-◌, sym, ap, List, arith}
use Rattle.agxx_base.specs.declared.ids.ClassId.{ClassId}
use Rattle.cxx_core.specs.ProgramView.{class_core}
use Rattle.step_machine.specs.Setting.{line_in}
use Rattle.fault_watch.specs.MarkSets.{has}
use Rattle.fault_watch.proofs.Lines.{more-ids, no-ids, gone-ids}
use Rattle.fault_watch.proofs.MarkSets.{without_line, without-none, without-more}
use Rattle.fault_watch.proofs.marks.Marks.clear_line.Goals as goal

pub returns-in_default : goal.returns-in_default
returns-in_default c =
    let classes = c.args.setting.now.program.classes in
    without-none c.args.object.0 (line_in classes c.loop-left.left c.loop-left.next) (has c.loop-left.self)
    (ap (line_in classes c.loop-left.left) c.in_default.is ∙ no-ids classes c.loop-left.left)
    ∙ c.loop-left.invariant

pub returns-in_default-class_at : goal.returns-in_default-class_at
returns-in_default-class_at c =
    let classes = c.args.setting.now.program.classes in
    without-none c.args.object.0 (line_in classes c.loop-left.left c.loop-left.next) (has c.loop-left.self)
    (ap (line_in classes c.loop-left.left) c.in-Some.is ∙ gone-ids classes c.loop-left.left c.in-Some.number (sym c.in_default-class_at.ensures))
    ∙ c.loop-left.invariant

pub returns : goal.returns
returns c =
    let classes = c.args.setting.now.program.classes in
    let over : c.loop-left.left ≡ 0 = omega arith in
    without-none c.args.object.0 (line_in classes c.loop-left.left c.loop-left.next) (has c.loop-left.self)
    (ap (λ n. line_in classes n c.loop-left.next) over)
    ∙ c.loop-left.invariant

pub loop-left-preserved : goal.loop-left-preserved
loop-left-preserved c =
    let classes = c.args.setting.now.program.classes in
    let ids : List ClassId = line_in classes (c.loop-left.left - 1) c.in-Some-class_at.class.now.base in
    ap (without_line c.args.object.0 ids) c.remove.ensures
    ∙ without-more c.args.object.0 c.in-Some.number ids (has c.loop-left.self)
    ∙ ap (λ l. without_line c.args.object.0 l (has c.loop-left.self))
    (sym (more-ids classes c.loop-left.left c.loop-left.next c.in-Some.number (class_core c.in-Some-class_at.class.now) c.loop-left-test.true c.in-Some.is (sym c.in-Some-class_at.ensures)))
    ∙ c.loop-left.invariant
