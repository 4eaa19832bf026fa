-- Stretches of a run in which thread 0 is alone, and runs by turns of any threads.
use Rattle.std.proofs.Common.{◌≡◌, ℕ, zero, suc, ◌+◌, ◌-◌, ◌<◌, ◌≤◌, List, [], ◌∷◌, length, None, slice_get, ap, subst, ◌∙◌, arith}
use Rattle.step_machine.specs.declared.outcome.State.TheVariants as state
use Rattle.step_machine.specs.declared.outcome.StepKind.TheVariants as kind
use Rattle.step_machine.specs.Machine.{Machine, next}
use Rattle.step_machine.specs.Runs.{Counts, counted, turn_taken, run_on}
use Rattle.step_machine.proofs.Still.{still}
use Rattle.sum_programs.specs.Laws.{turns_of_main}

pub record IsAlone (m : Machine) : Type 0 where
  pub running : m.state ≡ state.Running
  pub lone : (t : ℕ) → slice_get m.threads (suc t) ≡ None

-- so many turns of thread 0, each a step of the program as it was written
pub data Goes : Machine → ℕ → Machine → Type 0 where
  there : {m : Machine} → Goes m zero m
  step : {a b c : Machine} {n : ℕ} → IsAlone a → next a 0 ≡ (b, kind.Source) → Goes b n c → Goes a (suc n) c

zero-before : (k : ℕ) → k ≡ 0 + k
zero-before k = omega arith

suc-before : (n k : ℕ) → suc (n + k) ≡ suc n + k
suc-before n k = omega arith

pub onward : {a b c : Machine} {n k : ℕ} → Goes a n b → Goes b k c → Goes a (n + k) c
onward {a} {b} {c} {n} {k} there h = subst (λ x. Goes a x c) (zero-before k) h
onward {c = z} {k = k} (step {a = a} {n = n} alone e g) h = subst (λ x. Goes a x z) (suc-before n k) (step alone e (onward g h))

-- ---- turns of any threads

turns-le : (turns : List ℕ) → turns_of_main turns ≤ length turns
turns-le [] = omega arith
turns-le (zero ∷ turns) = let h = turns-le turns in omega arith
turns-le (suc t ∷ turns) = let h = turns-le turns in omega arith

abbrev counts-after : Counts → ℕ → ℕ → Counts
counts-after n steps idle = record n { source = n.source + steps; idle = n.idle + idle }

no-more : (n : ℕ) → n ≡ n + 0
no-more n = omega arith

idle-more : (n length k : ℕ) → k ≤ length → suc n + (length - k) ≡ n + (suc length - k)
idle-more n length k h = omega arith

source-more : (n k : ℕ) → suc n + k ≡ n + suc k
source-more n k = omega arith

length-less : (n length k : ℕ) → n + (length - k) ≡ n + (suc length - suc k)
length-less n length k = omega arith

over : (m : Machine) (turns : List ℕ) (n : Counts) → (m.state ≡ state.Running → ⊥) → run_on (m, n) turns ≡ (m, counts-after n 0 (length turns - 0))
over m [] n h = λ i. (m, record n { source = no-more n.source i; idle = no-more n.idle i })
over m (t ∷ turns) n h =
    ap (λ r. run_on (turn_taken n r) turns) (still.of_over m t h)
    ∙ over m turns (counted kind.Idle n) h
    ∙ (λ i. (m, record n { source = n.source + 0; idle = idle-more n.idle (length turns) 0 (omega arith) i }))

pub ran : {m c : Machine} {k : ℕ} (turns : List ℕ) (n : Counts) → Goes m k c → (c.state ≡ state.Running → ⊥) → k ≤ turns_of_main turns
    → run_on (m, n) turns ≡ (c, counts-after n k (length turns - k))
ran {m} {c} turns n there h l = over m turns n h
ran [] n (step alone e g) h l = absurd (omega arith)
ran (zero ∷ turns) n (step {b = b} {c = c} {n = k} alone e g) h l =
    ap (λ r. run_on (turn_taken n r) turns) e
    ∙ ran turns (counted kind.Source n) g h (omega arith)
    ∙ (λ i. (c, record n { source = source-more n.source k i; idle = length-less n.idle (length turns) k i }))
ran (suc t ∷ turns) n (step {a = a} {c = c} {n = k} alone e g) h l =
    ap (λ r. run_on (turn_taken n r) turns) (still.of_missing a (suc t) (alone.lone t))
    ∙ ran turns (counted kind.Idle n) (step alone e g) h l
    ∙ (λ i. (c, record n { source = n.source + suc k; idle = idle-more n.idle (length turns) (suc k) (let q = turns-le turns in omega arith) i }))

pub running : {m c : Machine} {k : ℕ} (turns : List ℕ) (n : Counts) → Goes m k c → turns_of_main turns < k → (run_on (m, n) turns).0.state ≡ state.Running
running turns n there l = absurd (omega arith)
running [] n (step alone e g) l = alone.running
running (zero ∷ turns) n (step alone e g) l =
    ap (λ r. (run_on (turn_taken n r) turns).0.state) e ∙ running turns (counted kind.Source n) g (omega arith)
running (suc t ∷ turns) n (step {a = a} alone e g) l =
    ap (λ r. (run_on (turn_taken n r) turns).0.state) (still.of_missing a (suc t) (alone.lone t))
    ∙ running turns (counted kind.Idle n) (step alone e g) l
