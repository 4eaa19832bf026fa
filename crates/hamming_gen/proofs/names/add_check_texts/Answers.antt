use Rattle.std.proofs.Common.{arith}
use Rattle.hamming_gen.proofs.Numbered.{one_more_behind}
use Rattle.hamming_gen.proofs.names.add_check_texts.Goals as goal

pub loop-number-preserved : goal.loop-number-preserved
loop-number-preserved c =
    one_more_behind _ 0 c.loop-number.number c.loop-number.number _ _ _ _ (omega arith)
    c.in_ok-check_text.ensures c.in_ok-push.ensures.ok c.loop-number.invariant
