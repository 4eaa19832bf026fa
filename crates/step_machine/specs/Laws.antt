-- Which turns change nothing.
use Rattle.std.specs.Prelude.{◌≡◌, ℕ, [], Some, None, slice_get}
use Rattle.agxx_base.specs.declared.place.Place.{Place}
use Rattle.step_machine.specs.declared.outcome.Stop.{Stop}
use Rattle.step_machine.specs.declared.outcome.State.TheVariants as state
use Rattle.step_machine.specs.declared.outcome.StepKind.TheVariants as kind
use Rattle.step_machine.specs.Machine.{Machine, next}

pub record TurnsThatChangeNothing : Type 0 where
  -- of a thread that was never made, and of one that has ended
  pub of_missing : (m : Machine) (t : ℕ) → slice_get m.threads t ≡ None → next m t ≡ (m, kind.Idle)
  pub of_ended : (m : Machine) (t : ℕ) → slice_get m.threads t ≡ Some [] → next m t ≡ (m, kind.Idle)
  -- once the run is over
  pub of_over : (m : Machine) (t : ℕ) → (m.state ≡ state.Running → ⊥) → next m t ≡ (m, kind.Idle)
  pub of_idle : (m : Machine) (t : ℕ) → (next m t).1 ≡ kind.Idle → (next m t).0 ≡ m
  pub of_blocked : (m : Machine) (t : ℕ) → (next m t).1 ≡ kind.Blocked → (next m t).0 ≡ m
  -- one that stops changes nothing else
  pub of_stopped : (m : Machine) (t : ℕ) (cause : Stop) (at : Place) → m.state ≡ state.Running → (next m t).0.state ≡ state.Stopped cause at → (next m t).0 ≡ record m { state = state.Stopped cause at }
