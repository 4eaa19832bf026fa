-- The run of a plan over the state as functions, with all that tells which flips were admissible.
use Rattle.std.specs.Prelude.{ℕ, zero, suc, min, nat_eq, nat_le, Bool, true, false, ◌&&◌, List, [], ◌∷◌, ◌++◌, if◌then◌else◌}
use Rattle.flip_plan.specs.declared.flip.PlannedFlip.{PlannedFlip}
use Rattle.step_machine.specs.declared.outcome.State.{State}
use Rattle.step_machine.specs.declared.outcome.State.TheVariants as state
use Rattle.step_machine.specs.declared.outcome.StepKind.{StepKind}
use Rattle.step_machine.specs.declared.outcome.StepKind.TheVariants as kind
use Rattle.step_machine.specs.Runs.{Counts, counted, nothing_counted}
use Rattle.step_machine.specs.Total.{Total, NextOf, next_of, upd}
use Rattle.step_machine.specs.Flips.{FlippedOf, flipped_of}
use Rattle.fault_model.specs.declared.verdict.Verdict.{Verdict}
use Rattle.fault_model.specs.declared.verdict.Verdict.TheVariants.{Admissible, First}
use Rattle.fault_model.specs.PlanLines.{PlanLine, flip, free, flip_of, FaultPlan}
use Rattle.fault_model.specs.Admissible.{Hits, no_hits, while_out, is_admissible, hits_after}

pub record Progress : Type 0 where
  pub total : Total
  -- how many turns of each kind were taken
  pub counts : Counts
  -- the lines that haven't fallen, in their order
  pub ahead : List PlanLine
  pub hits : Hits
  pub verdict : Verdict
  -- of each thread the inserted steps since its last source step, or since its start
  pub in_a_row : ℕ → ℕ
  -- how many flips changed a bit
  pub flips : ℕ
  -- the threads of the source steps, in order
  pub erased : List ℕ

-- ---- flips

-- by whether a flip is admissible, and its number
abbrev pub judged : Bool → ℕ → Verdict → Verdict
judged true number verdict = verdict
judged false number Admissible = First number
judged false number (First k) = First k

abbrev pub one_more : Bool → ℕ → ℕ
one_more true n = suc n
one_more false n = n

abbrev pub flipped_to : PlannedFlip → FlippedOf → Progress → Progress
flipped_to f after p = record p {
  total = after.0;
  hits = hits_after after.1 p.total f p.hits;
  verdict = judged (is_admissible p.total p.hits f) f.number p.verdict;
  flips = one_more after.1 p.flips;
}

abbrev pub with_flip : PlannedFlip → Progress → Progress
with_flip f p = flipped_to f (flipped_of f.object.0 f.word f.bit p.total) p

-- whether a line falls at a moment
abbrev pub falls : ℕ → Progress → PlanLine → Bool
falls i p (flip f) = nat_eq f.moment i
falls i p (free f) = nat_le f.moment i && is_admissible p.total p.hits f

abbrev pub with_line : Bool → PlanLine → Progress → Progress
with_line true line p = with_flip (flip_of line) p
with_line false line p = p

abbrev pub still_ahead : Bool → PlanLine → Progress → Progress
still_ahead true line p = p
still_ahead false line p = record p { ahead = line ∷ p.ahead }

-- the lines are gone through in order, and those that don't fall stay ahead
abbrev pub after_lines : ℕ → List PlanLine → Progress → Progress
after_lines i [] p = record p { ahead = [] }
after_lines i (line ∷ lines) p =
    still_ahead (falls i p line) line (after_lines i lines (with_line (falls i p line) line p))

abbrev pub after_flips : ℕ → Progress → Progress
after_flips i p = after_lines i p.ahead p

-- ---- turns

abbrev pub row_after : StepKind → ℕ → ℕ
row_after kind.Source n = 0
row_after kind.Inserted n = suc n
row_after kind.Blocked n = n
row_after kind.Idle n = n

abbrev pub erased_by : StepKind → ℕ → List ℕ
erased_by kind.Source t = t ∷ []
erased_by _ t = []

abbrev pub with_next : ℕ → Progress → NextOf → Progress
with_next t p n = record p {
  total = n.0;
  counts = counted n.1 p.counts;
  hits = while_out n.0 p.hits;
  in_a_row = upd p.in_a_row t (row_after n.1 (p.in_a_row t));
  erased = p.erased ++ erased_by n.1 t;
}

abbrev pub with_turn : ℕ → Progress → Progress
with_turn t p = with_next t p (next_of p.total t)

-- ---- a plan

-- the flips before turn i, and the turn
abbrev pub at_moment : FaultPlan → ℕ → Progress → Progress
at_moment plan i p = with_turn (plan.turn i) (after_flips i p)

abbrev pub is_running : State → Bool
is_running state.Running = true
is_running _ = false

-- while the run goes on
abbrev pub passed : FaultPlan → ℕ → Progress → Progress
passed plan i p = if is_running p.total.state then at_moment plan i p else p

abbrev pub after_turns : FaultPlan → Progress → ℕ → Progress
after_turns plan p zero = p
after_turns plan p (suc n) = passed plan n (after_turns plan p n)

abbrev pub before_first : FaultPlan → Total → Progress
before_first plan m = record {
  total = m;
  counts = nothing_counted;
  ahead = plan.lines;
  hits = no_hits;
  verdict = Admissible;
  in_a_row = λ t. 0;
  flips = 0;
  erased = [];
}

-- the run of a plan from a state on, after n turns or, where that comes before, at its end
abbrev pub planned_of : FaultPlan → Total → ℕ → Progress
planned_of plan m n = after_turns plan (before_first plan m) (min n plan.limit)
