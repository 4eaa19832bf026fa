-- The turn of a thread.
use Rattle.std.specs.Prelude.{◌≡◌, ℕ, false, ◌∷◌, Option, Some, None, MatchOption}
use Rattle.step_machine.specs.Frame.{Frame}
use Rattle.step_machine.specs.Setting.{Setting}
use Rattle.step_machine.specs.World.{World}
use Rattle.step_machine.specs.Turn.{Thread, Threads, put_back}
use Rattle.step_machine.specs.Machine.{Turned, taken_off, turned}
use Rattle.step_frame.specs.declared.work.Work.{Work}
use Rattle.step_frame.specs.Threads.{has_items}
use Rattle.step_frame.specs.Works.{item_of}

-- a thread before and after its running frame and the first item of that were taken, if it has one
abbrev pub Took : Thread → Thread → Option (Frame × Work) → Type 0
Took old new taken =
    MatchOption taken ((new ≡ old) × (has_items old ≡ false)) (λ r. old ≡ put_back (item_of r.1) r.0 ∷ new)

-- the threads before and after this of one of them
abbrev pub TookOff : ℕ → Threads → Threads → Option (Frame × Work) → Type 0
TookOff t old new taken =
    MatchOption taken ((new ≡ old) × (taken_off t old ≡ None)) (λ r. taken_off t old ≡ Some (r.0, item_of r.1, new))

-- the turn of thread t, as a function that stays shut
unfoldable pub turn_taken : Setting → World → ℕ → Threads → Turned
turn_taken s world t ths = turned s world t ths
