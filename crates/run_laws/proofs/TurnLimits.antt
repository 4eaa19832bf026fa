-- A run takes as many turns as its plan has at most.
use Rattle.std.proofs.Common.{◌≡◌, ℕ, zero, suc, ◌≤◌, min, if◌then◌else◌, List, [], ◌∷◌, Bool, true, false, refl, ap, sym, ◌∙◌, arith, true≢false}
use Rattle.step_machine.specs.declared.outcome.StepKind.{StepKind}
use Rattle.step_machine.specs.declared.outcome.StepKind.TheVariants as kind
use Rattle.step_machine.specs.Runs.{Counts, counted}
use Rattle.step_machine.specs.Total.{Total, next_of}
use Rattle.fault_model.specs.PlanLines.{PlanLine, FaultPlan}
use Rattle.fault_model.specs.Progress.{Progress, falls, with_line, still_ahead, after_lines, after_flips, at_moment, is_running, passed, after_turns, before_first}
use Rattle.run_laws.specs.TurnLimits.{turns_in, TurnsAreLimited}

-- each turn is of one kind
one-more : (k : StepKind) (n : Counts) → turns_in (counted k n) ≡ suc (turns_in n)
one-more kind.Source n = omega arith
one-more kind.Inserted n = omega arith
one-more kind.Blocked n = omega arith
one-more kind.Idle n = omega arith

-- ---- flips are no turns

line-counts : (b : Bool) (line : PlanLine) (p : Progress) → (with_line b line p).counts ≡ p.counts
line-counts true line p = refl
line-counts false line p = refl

still-counts : (b : Bool) (line : PlanLine) (p : Progress) → (still_ahead b line p).counts ≡ p.counts
still-counts true line p = refl
still-counts false line p = refl

lines-counts : (i : ℕ) (lines : List PlanLine) (p : Progress) → (after_lines i lines p).counts ≡ p.counts
lines-counts i [] p = refl
lines-counts i (line ∷ lines) p =
    still-counts (falls i p line) line (after_lines i lines (with_line (falls i p line) line p))
    ∙ lines-counts i lines (with_line (falls i p line) line p) ∙ line-counts (falls i p line) line p

-- ---- turns

record Took (n : ℕ) (p : Progress) : Type 0 where
  at_most : turns_in p.counts ≤ n
  all : is_running p.total.state ≡ true → turns_in p.counts ≡ n

moment-took : (plan : FaultPlan) (n : ℕ) (p : Progress) → turns_in p.counts ≡ n → turns_in (at_moment plan n p).counts ≡ suc n
moment-took plan n p e =
    one-more (next_of (after_flips n p).total (plan.turn n)).1 (after_flips n p).counts
    ∙ ap (λ c. suc (turns_in c)) (lines-counts n p.ahead p) ∙ ap suc e

passed-took : (plan : FaultPlan) (n : ℕ) (p : Progress) → Took n p → Took (suc n) (passed plan n p)
passed-took plan n p h = by (is_running p.total.state) refl
  where
    by : (b : Bool) → is_running p.total.state ≡ b → Took (suc n) (if b then at_moment plan n p else p)
    by true e = let now = moment-took plan n p (h.all e) in record { at_most = omega arith; all = λ f. now }
    by false e = let before = h.at_most in record { at_most = omega arith; all = λ f. absurd (true≢false (sym f ∙ e)) }

took : (plan : FaultPlan) (m : Total) (n : ℕ) → Took n (after_turns plan (before_first plan m) n)
took plan m zero = record { at_most = omega arith; all = λ e. refl }
took plan m (suc n) = passed-took plan n (after_turns plan (before_first plan m) n) (took plan m n)

pub turns-are-limited : TurnsAreLimited
turns-are-limited = record {
  at_most = λ plan m n. let h = (took plan m (min n plan.limit)).at_most in omega arith;
  by_then = λ plan m n. let h = (took plan m (min n plan.limit)).at_most in omega arith;
  all = λ plan m n e. (took plan m (min n plan.limit)).all e;
}
