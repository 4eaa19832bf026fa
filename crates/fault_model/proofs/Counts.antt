-- As many threads are kept as source steps were counted.
use Rattle.std.proofs.Common.{◌≡◌, ℕ, zero, suc, min, if◌then◌else◌, List, [], ◌∷◌, ◌++◌, length, Bool, true, false, refl, ap, ◌∙◌}
use Rattle.step_machine.specs.declared.outcome.StepKind.{StepKind}
use Rattle.step_machine.specs.declared.outcome.StepKind.TheVariants as kind
use Rattle.step_machine.specs.Runs.{Counts, counted}
use Rattle.step_machine.specs.Total.{Total, next_of}
use Rattle.step_machine.proofs.Same.{length-snoc}
use Rattle.fault_model.specs.PlanLines.{PlanLine, FaultPlan}
use Rattle.fault_model.specs.Progress.{Progress, falls, with_line, still_ahead, after_lines, after_flips, erased_by, at_moment, is_running, passed, after_turns, before_first}
use Rattle.fault_model.specs.Laws.{ErasesSource}

append-none : (xs : List ℕ) → xs ++ [] ≡ xs
append-none [] = refl
append-none (x ∷ xs) = ap (λ l. x ∷ l) (append-none xs)

erased-kind : (k : StepKind) (t : ℕ) (xs : List ℕ) (n : Counts) → length xs ≡ n.source → length (xs ++ erased_by k t) ≡ (counted k n).source
erased-kind kind.Source t xs n h = length-snoc xs t ∙ ap suc h
erased-kind kind.Inserted t xs n h = ap length (append-none xs) ∙ h
erased-kind kind.Blocked t xs n h = ap length (append-none xs) ∙ h
erased-kind kind.Idle t xs n h = ap length (append-none xs) ∙ h

abbrev IsCounted : Progress → Type 0
IsCounted p = length p.erased ≡ p.counts.source

counted-line : (b : Bool) (line : PlanLine) (p : Progress) → IsCounted p → IsCounted (with_line b line p)
counted-line true line p h = h
counted-line false line p h = h

counted-still : (b : Bool) (line : PlanLine) (p : Progress) → IsCounted p → IsCounted (still_ahead b line p)
counted-still true line p h = h
counted-still false line p h = h

counted-lines : (i : ℕ) (lines : List PlanLine) (p : Progress) → IsCounted p → IsCounted (after_lines i lines p)
counted-lines i [] p h = h
counted-lines i (line ∷ lines) p h =
    counted-still (falls i p line) line (after_lines i lines (with_line (falls i p line) line p))
    (counted-lines i lines (with_line (falls i p line) line p) (counted-line (falls i p line) line p h))

counted-turns : (plan : FaultPlan) (m : Total) (n : ℕ) → IsCounted (after_turns plan (before_first plan m) n)
counted-turns plan m zero = refl
counted-turns plan m (suc n) = go (after_turns plan (before_first plan m) n) (counted-turns plan m n)
  where
    go : (p : Progress) → IsCounted p → IsCounted (passed plan n p)
    go p h = by (is_running p.total.state)
      where
        by : (b : Bool) → IsCounted (if b then at_moment plan n p else p)
        by true = erased-kind (next_of (after_flips n p).total (plan.turn n)).1 (plan.turn n) (after_flips n p).erased (after_flips n p).counts (counted-lines n p.ahead p h)
        by false = h

pub erases-source : ErasesSource
erases-source = record { of_run = λ plan m n. counted-turns plan m (min n plan.limit) }
