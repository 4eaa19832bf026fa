-- What comes of an item that touches its frame alone, as an effect of the machine.
use Rattle.std.specs.Prelude.{◌≡◌, List}
use Rattle.step_machine.specs.ActValues.{has}
use Rattle.step_machine.specs.Effects as on
use Rattle.step_machine.specs.Effects.{Effect, Did, Act, did}
use Rattle.step_machine.specs.Frame.{Frame}
use Rattle.step_machine.specs.Item.{Item}
use Rattle.step_frame.specs.declared.outcome.Outcome.{Outcome}
use Rattle.step_frame.specs.declared.outcome.Outcome.TheVariants as outcome

abbrev pub local_effect : Outcome → Effect
local_effect outcome.Stays = on.does on.stay
local_effect (outcome.Stops cause at) = on.stop cause at

-- a frame was changed, with this outcome, as the machine does it
abbrev pub HasDone : Frame → Frame → Outcome → Act → Type 0
HasDone old new r act = ◌≡◌ {A = Did} (new, local_effect r) (did old act)

-- a frame has these items to do, and nothing else has changed
abbrev pub HasPlanned : Frame → Frame → Outcome → List Item → Type 0
HasPlanned old new r items = HasDone old new r (has items old)
