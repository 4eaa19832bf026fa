use Rattle.std.proofs.Common.{◌≡◌, map, sym, ◌∙◌, ne_eqb}
use Rattle.cxx_core.specs.ProgramView.{class_core}
use Rattle.step_setting.proofs.Lines.{stands_above}
use Rattle.step_setting.proofs.tables.stands_upwards.Goals as goal

pub loop-left-preserved : goal.loop-left-preserved
loop-left-preserved c =
    stands_above (map class_core c.args.classes.now) c.loop-left.left c.loop-left.next c.in-Some.number c.args.class (class_core c.in-Some-class_at.found.now)
    c.loop-left-test.true c.in-Some.is (sym c.in-Some-class_at.ensures) (ne_eqb c.args.class.0 c.in-Some.number.0 c.if-class-number.false) ∙ c.loop-left.invariant
