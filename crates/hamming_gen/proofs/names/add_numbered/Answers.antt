use Rattle.std.proofs.Common.{refl}
use Rattle.hamming_gen.proofs.Numbered.{one_more_behind}
use Rattle.hamming_gen.proofs.names.add_numbered.Goals as goal

pub loop-index-preserved : goal.loop-index-preserved
loop-index-preserved c =
    one_more_behind _ c.args.first c.loop-index.index _ _ _ _ _ refl
    c.in_ok-text_numbered.ensures c.in_ok-push.ensures.ok c.loop-index.invariant
