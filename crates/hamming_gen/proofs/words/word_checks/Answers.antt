use Rattle.hamming_gen.proofs.Numbered.{one_more}
use Rattle.hamming_gen.proofs.words.word_checks.Goals as goal

pub loop-number-preserved : goal.loop-number-preserved
loop-number-preserved c =
    one_more _ c.loop-number.number _ _ _ c.in_ok-word.ensures c.in_ok-push.ensures.ok c.loop-number.invariant
