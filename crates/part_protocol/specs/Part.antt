-- A part of an object, and where each thread is to it.
use Rattle.std.specs.Prelude.{ℕ, Bool, List, Option}
use Rattle.step_machine.specs.Frame.{Frame}
use Rattle.part_protocol.specs.Gate.{Gate, Phase, away, wants_in, comes_in, came_in, is_in, wants_out, goes_out, went_out, is_out, Standing}

pub record Part : Type 0 where
  -- those of the members, and then those that its code adds
  pub words : List ℕ
  pub count : ℕ
  pub lock : Option ℕ

abbrev pub gate_of : Part → Gate
gate_of a = record { count = a.count; lock = a.lock }

-- ---- how far a thread is in an enter and in a leave

-- All that runs between lock and unlock on one side of the store of the counter is one place: after so many steps, with
-- these frames left, the one that runs at the head.

pub data EnterStep : Type 0 where
  enter_waits : EnterStep
  -- up to the store of the counter
  enter_runs : ℕ → List Frame → EnterStep
  enter_unlocks : EnterStep
  enter_ends : EnterStep

pub data LeaveStep : Type 0 where
  leave_waits : LeaveStep
  leave_counts : ℕ → List Frame → LeaveStep
  -- from the store of the counter up to the unlock
  leave_runs : ℕ → List Frame → LeaveStep
  leave_ends : LeaveStep

pub data Position : Type 0 where
  outside : Position
  entry : EnterStep → Position
  exit : LeaveStep → Position

pub record Role : Type 0 where
  -- how many of the thread's frames are engaged, have passed their enter, and are inside
  pub held : ℕ
  pub passed : ℕ
  pub inside : ℕ
  pub position : Position

-- ---- as the gate sees it, by which frames mend the words

module _ (mending : List Frame → Bool) where
  abbrev pub phase_of : Position → Phase
  phase_of outside = away
  phase_of (entry enter_waits) = wants_in
  phase_of (entry (enter_runs done frames)) = comes_in (mending frames)
  phase_of (entry enter_unlocks) = came_in
  phase_of (entry enter_ends) = is_in
  phase_of (exit leave_waits) = wants_out
  phase_of (exit (leave_counts done frames)) = goes_out
  phase_of (exit (leave_runs done frames)) = went_out (mending frames)
  phase_of (exit leave_ends) = is_out

  abbrev pub standing_of : Role → Standing
  standing_of r = record { held = r.held; phase = phase_of r.position }
