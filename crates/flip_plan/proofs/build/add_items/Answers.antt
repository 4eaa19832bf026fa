use Rattle.std.proofs.Common.{ap, ◌∙◌}
use Rattle.flip_plan.specs.Numbers.{item_of}
use Rattle.flip_plan.specs.Reading.{with_item}
use Rattle.flip_plan.proofs.Rooms.{items_turn}
use Rattle.flip_plan.proofs.build.add_items.Goals as goal

pub loop-word-preserved : goal.loop-word-preserved
loop-word-preserved c =
    items_turn c.args.words.now c.loop-word.word-index c.word-item.result c.loop-word.runs c.add_item.new.runs _ c.loop-word.invariant c.loop-word-test.true c.word-item.is
    (c.in_ok-add_item.ensures ∙ ap (with_item c.loop-word.runs) (c.read_item.ensures ∙ ap item_of c.text.ensures))
