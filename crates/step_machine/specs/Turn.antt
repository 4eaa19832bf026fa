-- A thread after an effect: its frames, and what the turn is to the others.
use Rattle.std.specs.Prelude.{ℕ, Bool, true, false, slice_get, List, [], ◌∷◌, Option, Some, None}
use Rattle.step_machine.specs.declared.datum.Datum.{Datum}
use Rattle.step_machine.specs.Item.{Item}
use Rattle.step_machine.specs.Frame.{Frame, pushed}
use Rattle.step_machine.specs.Effects as on
use Rattle.step_machine.specs.Effects.{Deed, Effect, Turn}

-- the frames of a thread, the one that runs at the head; a thread without frames has ended
abbrev pub Thread : Type 0
Thread = List Frame

abbrev pub Threads : Type 0
Threads = List Thread

abbrev pub Settled : Type 0
Settled = Thread × Turn

-- the frames of a thread by its number; one that was not made has none
abbrev pub frames_of : Option Thread → Thread
frames_of None = []
frames_of (Some fs) = fs

abbrev pub thread_at : Threads → ℕ → Thread
thread_at ths t = frames_of (slice_get ths t)

abbrev pub has_ended : Thread → Bool
has_ended [] = true
has_ended (f ∷ fs) = false

-- the caller gets the value
abbrev pub handed : Option Datum → Thread → Thread
handed None fs = fs
handed (Some v) [] = []
handed (Some v) (f ∷ fs) = pushed v f ∷ fs

-- the item stays where it was
abbrev pub put_back : Item → Frame → Frame
put_back i f = record f { items = i ∷ f.items }

-- where frame f did it, below which stand the frames fs
abbrev pub done : Thread → Frame → Deed → Settled
done fs f on.stay = (f ∷ fs, on.went)
done fs f (on.change c) = (f ∷ fs, on.changed c)
done fs f (on.enter g) = (g ∷ f ∷ fs, on.went)
done fs f (on.create_entering class words g) = (g ∷ f ∷ fs, on.changed (on.create class words))
done fs f (on.back v) = (handed v fs, on.went)
done fs f (on.back_killing o) = (fs, on.changed (on.kill o))
done fs f (on.start g) = (f ∷ fs, on.started g)
done fs f (on.end z) = (f ∷ fs, on.ended z)
done fs f (on.halt o class) = (f ∷ fs, on.halted o class)

-- by the effect of an item that was taken off frame f
abbrev pub settled : Item → Thread → Frame → Effect → Settled
settled i fs f (on.does d) = done fs f d
settled i fs f (on.stop cause at) = (put_back i f ∷ fs, on.stopped cause at)
settled i fs f on.wait = (put_back i f ∷ fs, on.blocked)
