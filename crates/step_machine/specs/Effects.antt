-- What comes of an item: for its thread an effect, for the other threads a turn, and for what they share a change.
use Rattle.std.specs.Prelude.{ℕ, List, Option, ℤ}
use Rattle.agxx_base.specs.declared.ids.ClassId.{ClassId}
use Rattle.agxx_base.specs.declared.place.Place.{Place}
use Rattle.step_machine.specs.declared.datum.Datum.{Datum}
use Rattle.step_machine.specs.declared.outcome.Stop.{Stop}
use Rattle.step_machine.specs.Frame.{Frame}

-- a mutex: a global one by its name, or one of an object by its number there
pub data Lock : Type 0 where
  shared : ℕ → Lock
  inside : ℕ → ℕ → Lock

pub data Change : Type 0 where
  -- the bits of a word of an object
  store : ℕ → ℕ → ℕ → Change
  -- the value of a global
  assign : ℕ → Datum → Change
  print : List ℕ → Change
  -- an object of so many words
  create : ClassId → ℕ → Change
  kill : ℕ → Change
  take : Lock → Change
  free : Lock → Change

-- of an item that neither stops nor waits
pub data Deed : Type 0 where
  stay : Deed
  change : Change → Deed
  enter : Frame → Deed
  -- a new object's constructor
  create_entering : ClassId → ℕ → Frame → Deed
  -- the frame is left, with its value if it has one
  back : Option Datum → Deed
  -- the frame is left and its object destroyed
  back_killing : ℕ → Deed
  start : Frame → Deed
  end : ℤ → Deed
  halt : Option ℕ → Option ClassId → Deed

pub data Effect : Type 0 where
  does : Deed → Effect
  stop : Stop → Place → Effect
  wait : Effect

pub data Turn : Type 0 where
  -- nothing that the others see
  went : Turn
  changed : Change → Turn
  started : Frame → Turn
  blocked : Turn
  idle : Turn
  ended : ℤ → Turn
  halted : Option ℕ → Option ClassId → Turn
  stopped : Stop → Place → Turn

-- the frame after an item, and its effect
abbrev pub Did : Type 0
Did = Frame × Effect

pub data Act : Type 0 where
  goes : Frame → Deed → Act
  stops : Stop → Place → Act
  waits : Act

-- a stop and a wait change nothing
abbrev pub did : Frame → Act → Did
did f (goes g d) = (g, does d)
did f (stops cause at) = (f, stop cause at)
did f waits = (f, wait)

abbrev pub stays : Frame → Act
stays f = goes f stay
