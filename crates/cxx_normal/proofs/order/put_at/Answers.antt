use Rattle.std.proofs.Common.{get_or}
use Rattle.std.proofs.lemmas.List.{take_more}
use Rattle.cxx_normal.proofs.Places.{put-turn}
use Rattle.cxx_normal.proofs.order.put_at.Goals as goal

pub loop-place-preserved : goal.loop-place-preserved
loop-place-preserved c =
    λ place. put-turn c.args.number place (get_or c.args.places.now c.loop-place.place-index 0) _ _ _ _ _ (take_more c.args.places.now c.loop-place.place-index 0 c.loop-place-test.true) (c.loop-place.invariant place) (c.in_ok-insert.ensures.updates.0 place)
