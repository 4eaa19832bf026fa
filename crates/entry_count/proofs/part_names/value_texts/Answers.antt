use Rattle.entry_count.proofs.Leaves.{next_value}
use Rattle.entry_count.proofs.part_names.value_texts.Goals as goal

pub loop-before-preserved : goal.loop-before-preserved
loop-before-preserved c =
    next_value c.loop-before.before c.args.count c.in_ok-value_text.field-0 c.loop-before.texts c.push.new.self _ c.loop-before-test.true c.in_ok-value_text.ensures c.in_ok-push.ensures.ok c.loop-before.invariant
