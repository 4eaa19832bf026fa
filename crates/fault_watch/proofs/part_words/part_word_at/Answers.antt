use Rattle.std.proofs.Common.{◌∙◌, sym, ap, option_map}
use Rattle.cxx_core.specs.ProgramView.{class_core}
use Rattle.fault_watch.specs.PartWords.{shown}
use Rattle.fault_watch.proofs.PartWords.{found-here, found-above}
use Rattle.fault_watch.proofs.part_words.part_word_at.Goals as goal

pub returns-in-Some-own_word : goal.returns-in-Some-own_word
returns-in-Some-own_word c =
    found-here c.args.setting.now c.args.word c.loop-left.left c.loop-left.next c.in-Some.number (class_core c.in-Some-class_at.class.now) c.in-Some-own_word.found
    c.loop-left-test.true c.in-Some.is (sym c.in-Some-class_at.ensures) c.in-Some-own_word.ensures
    ∙ ap (option_map shown) c.loop-left.invariant

pub loop-left-preserved : goal.loop-left-preserved
loop-left-preserved c =
    found-above c.args.setting.now c.args.word c.loop-left.left c.loop-left.next c.in-Some.number (class_core c.in-Some-class_at.class.now)
    c.loop-left-test.true c.in-Some.is (sym c.in-Some-class_at.ensures) (sym c.in-None.is ∙ c.own_word.ensures)
    ∙ c.loop-left.invariant
