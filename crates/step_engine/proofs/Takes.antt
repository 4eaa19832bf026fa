-- A frame that is taken off once its first item was.
use Rattle.std.proofs.Common.{◌≡◌, false, List, [], ◌∷◌, refl, ap, sym, ◌∙◌}
use Rattle.step_machine.specs.Frame.{Frame}
use Rattle.step_machine.specs.Item.{Item}
use Rattle.step_machine.specs.Turn.{put_back}
use Rattle.step_frame.specs.Threads.{has_items, with_item}

pub taken_none : (i : Item) (old mid new : List Frame) → old ≡ with_item i mid → mid ≡ [] → new ≡ [] → (new ≡ old) × (has_items old ≡ false)
taken_none i old mid new e m n =
    let o : old ≡ [] = e ∙ ap (with_item i) m in (n ∙ sym o, ap has_items o)

pub taken_some : (i : Item) (f : Frame) (old mid new : List Frame) → old ≡ with_item i mid → mid ≡ f ∷ new → old ≡ put_back i f ∷ new
taken_some i f old mid new e m = e ∙ ap (with_item i) m
