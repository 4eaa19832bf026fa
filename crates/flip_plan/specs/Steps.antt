-- Turns as they are kept: each run with how many turns there are up to its end.
use Rattle.std.specs.Prelude.{◌≡◌, ℕ, ◌+◌, List, [], ◌∷◌, map}
use Rattle.flip_plan.specs.Plans.{Run}
use Rattle.flip_plan.specs.declared.runs.Step.{Step}

abbrev pub run_of : Step → Run
run_of step = record { thread = step.thread; count = step.count }

abbrev pub runs_of : List Step → List Run
runs_of steps = map run_of steps

-- from so many turns on the ends are these sums, and the last is the total
abbrev pub Sums : ℕ → List Step → ℕ → Type 0
Sums start [] total = start ≡ total
Sums start (step ∷ steps) total = (step.end ≡ start + step.count) × Sums step.end steps total
