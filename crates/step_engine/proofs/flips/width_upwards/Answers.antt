use Rattle.std.proofs.Common.{◌≡◌, ◌-◌, length, map, slice_get, ap, sym, ◌∙◌, arith}
use Rattle.std.proofs.lemmas.List.{length-map}
use Rattle.cxx_core.specs.ProgramView.{class_core, word_core}
use Rattle.step_machine.specs.Flips.{width_by}
use Rattle.step_engine.proofs.Widths.{words_from}
use Rattle.step_engine.proofs.flips.width_upwards.Goals as goal

pub overflow_sub-above : goal.overflow_sub-above
overflow_sub-above c =
    let own : c.len-above.result ≡ length (class_core c.in-Some-class_at.class.now).words = omega (arith, length-map c.in-Some-class_at.class.now.words word_core) in
    let by = words_from (map class_core c.args.classes.now) c.loop-left.left c.loop-left.next c.in-Some.number (class_core c.in-Some-class_at.class.now) c.len-above.result c.args.word c.loop-left-test.true c.in-Some.is (sym c.in-Some-class_at.ensures) own in
    omega (arith, by.count)

pub returns-then-word-above-clause-value : goal.returns-then-word-above-clause-value
returns-then-word-above-clause-value c =
    let own : c.len-above.result ≡ length (class_core c.in-Some-class_at.class.now).words = omega (arith, length-map c.in-Some-class_at.class.now.words word_core) in
    let by = words_from (map class_core c.args.classes.now) c.loop-left.left c.loop-left.next c.in-Some.number (class_core c.in-Some-class_at.class.now) c.len-above.result c.args.word c.loop-left-test.true c.in-Some.is (sym c.in-Some-class_at.ensures) own in
    c.own_width.ensures.value ∙ ap width_by (
    ap (λ m. slice_get (class_core c.in-Some-class_at.class.now).words (c.args.word - (m - c.len-above.result))) c.loop-left.invariant.count ∙
    (sym (by.here (omega arith)) ∙ c.loop-left.invariant.same))

pub loop-left-preserved : goal.loop-left-preserved
loop-left-preserved c =
    let own : c.len-above.result ≡ length (class_core c.in-Some-class_at.class.now).words = omega (arith, length-map c.in-Some-class_at.class.now.words word_core) in
    let by = words_from (map class_core c.args.classes.now) c.loop-left.left c.loop-left.next c.in-Some.number (class_core c.in-Some-class_at.class.now) c.len-above.result c.args.word c.loop-left-test.true c.in-Some.is (sym c.in-Some-class_at.ensures) own in
    record { count = omega (arith, by.count); same = sym (by.above (omega arith)) ∙ c.loop-left.invariant.same }
