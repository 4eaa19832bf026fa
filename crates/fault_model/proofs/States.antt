-- What falls depends on the machine's state, the lines ahead and the hits alone.
use Rattle.std.proofs.Common.{◌≡◌, ℕ, List, [], ◌∷◌, Bool, true, false, refl, ap, ◌∙◌}
use Rattle.step_machine.specs.Total.{Total}
use Rattle.fault_model.specs.PlanLines.{PlanLine, flip_of}
use Rattle.fault_model.specs.Admissible.{Hits}
use Rattle.fault_model.specs.Progress.{Progress, with_flip, falls, with_line, still_ahead, after_lines}
use Rattle.fault_model.specs.Comings.{Coming, coming_of, if_it_falls, comings}
use Rattle.fault_model.specs.Laws.{StateTellsFlips}

-- in this state
abbrev set : Total → Hits → Progress → Progress
set m hits p = record p { total = m; hits = hits }

-- what comes is the same, and so is what it leaves
abbrev Alike : List Coming → List Coming → Progress → Progress → Type 0
Alike cs ds x y = (cs ≡ ds) × (x.total ≡ y.total) × (x.hits ≡ y.hits) × (x.ahead ≡ y.ahead)

-- what a line comes to, by whether it falls
abbrev told : ℕ → PlanLine → List PlanLine → Bool → Progress → List Coming
told i line lines b x = if_it_falls b (coming_of x line) (comings i lines (with_line b line x))

abbrev left : ℕ → PlanLine → List PlanLine → Bool → Progress → Progress
left i line lines b x = still_ahead b line (after_lines i lines (with_line b line x))

alike-line : (i : ℕ) (line : PlanLine) (lines : List PlanLine) (m : Total) (hits : Hits) (p q : Progress) (b : Bool)
    → Alike (comings i lines (with_line b line (set m hits p))) (comings i lines (with_line b line (set m hits q)))
    (after_lines i lines (with_line b line (set m hits p))) (after_lines i lines (with_line b line (set m hits q)))
    → Alike (told i line lines b (set m hits p)) (told i line lines b (set m hits q)) (left i line lines b (set m hits p)) (left i line lines b (set m hits q))
alike-line i line lines m hits p q true h = (ap (λ l. coming_of (set m hits p) line ∷ l) h.0, h.1, h.2, h.3)
alike-line i line lines m hits p q false h = (h.0, h.1, h.2, ap (λ l. line ∷ l) h.3)

alike-set : (i : ℕ) (lines : List PlanLine) (m : Total) (hits : Hits) (p q : Progress)
    → Alike (comings i lines (set m hits p)) (comings i lines (set m hits q)) (after_lines i lines (set m hits p)) (after_lines i lines (set m hits q))
alike-set i [] m hits p q = (refl, refl, refl, refl)
alike-set i (line ∷ lines) m hits p q =
    alike-line i line lines m hits p q (falls i (set m hits p) line) (next (falls i (set m hits p) line) (alike-set i lines))
  where
    next : (b : Bool)
        → ((n : Total) (later : Hits) (x y : Progress) → Alike (comings i lines (set n later x)) (comings i lines (set n later y)) (after_lines i lines (set n later x)) (after_lines i lines (set n later y)))
        → Alike (comings i lines (with_line b line (set m hits p))) (comings i lines (with_line b line (set m hits q)))
        (after_lines i lines (with_line b line (set m hits p))) (after_lines i lines (with_line b line (set m hits q)))
    next true more =
        more (with_flip (flip_of line) (set m hits p)).total (with_flip (flip_of line) (set m hits p)).hits
        (with_flip (flip_of line) (set m hits p)) (with_flip (flip_of line) (set m hits q))
    next false more = more m hits p q

-- where the lines, the state and the hits are the same by paths
alike-by : (i : ℕ) (lines : List PlanLine) (p q : Progress)
    → Alike (comings i lines p) (comings i lines (set p.total p.hits q)) (after_lines i lines p) (after_lines i lines (set p.total p.hits q))
alike-by i lines p q = alike-set i lines p.total p.hits p q

pub state-tells-flips : StateTellsFlips
state-tells-flips i p q e h a =
    let x = alike-by i p.ahead p q in
    record {
      comings = x.0 ∙ λ j. comings i (a j) (set (e j) (h j) q);
      total = x.1 ∙ λ j. (after_lines i (a j) (set (e j) (h j) q)).total;
      hits = x.2 ∙ λ j. (after_lines i (a j) (set (e j) (h j) q)).hits;
      ahead = x.3 ∙ λ j. (after_lines i (a j) (set (e j) (h j) q)).ahead;
    }
