-- The flips that come in a run, in time, and the verdict as a look back on all of them.
use Rattle.std.specs.Prelude.{ℕ, zero, suc, Bool, true, false, not, List, [], ◌∷◌, ◌++◌, find, Option, Some, None, if◌then◌else◌}
use Rattle.fault_model.specs.declared.verdict.Verdict.{Verdict}
use Rattle.fault_model.specs.declared.verdict.Verdict.TheVariants.{Admissible, First}
use Rattle.fault_model.specs.PlanLines.{PlanLine, flip_of, FaultPlan}
use Rattle.fault_model.specs.Admissible.{is_admissible}
use Rattle.fault_model.specs.Progress.{Progress, falls, with_line, is_running, after_turns}

pub record Coming : Type 0 where
  -- of its line
  pub number : ℕ
  -- as it comes
  pub is_admissible : Bool

abbrev pub coming_of : Progress → PlanLine → Coming
coming_of p line = record {
  number = (flip_of line).number;
  is_admissible = is_admissible p.total p.hits (flip_of line);
}

abbrev pub if_it_falls : Bool → Coming → List Coming → List Coming
if_it_falls true c cs = c ∷ cs
if_it_falls false c cs = cs

-- those of a moment, in the order of their lines
abbrev pub comings : ℕ → List PlanLine → Progress → List Coming
comings i [] p = []
comings i (line ∷ lines) p =
    if_it_falls (falls i p line) (coming_of p line) (comings i lines (with_line (falls i p line) line p))

abbrev pub comings_at : ℕ → Progress → List Coming
comings_at i p = if is_running p.total.state then comings i p.ahead p else []

-- those before so many turns
abbrev pub comings_in : FaultPlan → Progress → ℕ → List Coming
comings_in plan p zero = []
comings_in plan p (suc n) = comings_in plan p n ++ comings_at n (after_turns plan p n)

abbrev pub verdict_by : Option Coming → Verdict
verdict_by None = Admissible
verdict_by (Some c) = First c.number

-- the first that isn't admissible, if there is one
abbrev pub verdict_of : List Coming → Verdict
verdict_of cs = verdict_by (find (λ c. not c.is_admissible) cs)
