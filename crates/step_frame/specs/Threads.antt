-- The first item of the frame that runs.
use Rattle.std.specs.Prelude.{◌≡◌, Bool, true, false, List, [], ◌∷◌, Option, MatchOption}
use Rattle.step_machine.specs.Item.{Item}
use Rattle.step_machine.specs.Frame.{Frame}
use Rattle.step_machine.specs.Turn.{Thread, put_back}
use Rattle.step_frame.specs.declared.work.Work.{Work}
use Rattle.step_frame.specs.Works.{item_of}

abbrev pub are_some : List Item → Bool
are_some [] = false
are_some (i ∷ is) = true

-- whether a thread has something to do
abbrev pub has_items : Thread → Bool
has_items [] = false
has_items (f ∷ fs) = are_some f.items

-- the frames of a thread, where the one that runs has one more item, its first
abbrev pub with_item : Item → Thread → Thread
with_item i [] = []
with_item i (f ∷ fs) = put_back i f ∷ fs

-- a frame before and after its first item was taken, if it has one
abbrev pub Took : Frame → Frame → Option Work → Type 0
Took old new taken = MatchOption taken ((new ≡ old) × (are_some old.items ≡ false)) (λ w. old ≡ put_back (item_of w) new)

-- the frames of a thread before and after the first item of the one that runs was taken, if it has one
abbrev pub IsTaken : Thread → Thread → Option Work → Type 0
IsTaken old new taken = MatchOption taken ((new ≡ old) × (has_items old ≡ false)) (λ w. old ≡ with_item (item_of w) new)
