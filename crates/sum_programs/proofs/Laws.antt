-- The laws, from the stretch of a whole run.
use Rattle.std.proofs.Common.{◌≡◌, ℕ, zero, suc, ◌+◌, ◌-◌, ◌*◌, ◌≤◌, List, length, replicate, refl, ap, sym, subst, ◌∙◌, arith}
use Rattle.std.proofs.lemmas.List.{length-replicate}
use Rattle.step_machine.specs.Setting.{Setting}
use Rattle.step_machine.specs.Runs.{run, nothing_counted}
use Rattle.sum_programs.specs.SumPrograms.{SumProgram, tree_of, steps_of}
use Rattle.sum_programs.specs.Laws.{setting_of, IsInLimits, HasPrinted, PrintsAndEnds, turns_of_main, rounds, SumsArePrinted}
use Rattle.sum_programs.proofs.Turns.{ran, running}
use Rattle.sum_programs.proofs.Program.{set_to, setting-is, whole}
use Rattle.sum_programs.proofs.Normal.{core-kept}

turns-alone : (n : ℕ) → turns_of_main (replicate n 0) ≡ n
turns-alone zero = refl
turns-alone (suc n) = ap suc (turns-alone n)

none-left : (n : ℕ) → length {A = ℕ} (replicate n 0) - n ≡ 0
none-left n = rw length-replicate (omega arith)

turns-in-rounds : (n : ℕ) → turns_of_main (rounds n) ≡ n
turns-in-rounds zero = refl
turns-in-rounds (suc n) = ap suc (turns-in-rounds n)

length-rounds : (n : ℕ) → length (rounds n) ≡ 8 * n
length-rounds zero = refl
length-rounds (suc n) = let e = length-rounds n in omega arith

plain : (n : ℕ) → 0 + n ≡ n
plain n = omega arith

module _ (names : List (List ℕ)) (d : SumProgram) (h : IsInLimits d) where
  abbrev s : Setting
  s = set_to names d

  by-turns : (turns : List ℕ) → steps_of d ≤ turns_of_main turns → HasPrinted d (length turns - steps_of d) (run s turns)
  by-turns turns l =
      let e = ran turns nothing_counted (whole names d h) (λ q. cc) l in
      record {
        state = ap (λ r. r.0.state) e;
        output = ap (λ r. r.0.world.output) e;
        counts =
            ap (λ r. r.1) e
            ∙ (λ i. record { source = plain (steps_of d) i; inserted = 0; blocked = 0; idle = plain (length turns - steps_of d) i });
      }

  alone : HasPrinted d 0 (run s (replicate (steps_of d) 0))
  alone =
      let n = steps_of d in
      let e = turns-alone n in
      subst (λ x. HasPrinted d x (run s (replicate n 0))) (none-left n) (by-turns (replicate n 0) (omega arith))

  by-rounds : (n : ℕ) → steps_of d ≤ n → HasPrinted d (8 * n - steps_of d) (run s (rounds n))
  by-rounds n l =
      let e = turns-in-rounds n in
      subst (λ x. HasPrinted d (x - steps_of d) (run s (rounds n))) (length-rounds n) (by-turns (rounds n) (omega arith))

  prints : PrintsAndEnds d s
  prints = record {
    alone = alone;
    before = λ turns l. running turns nothing_counted (whole names d h) l;
    by_turns = by-turns;
    by_rounds = by-rounds;
  }

  as-written : PrintsAndEnds d (setting_of names (tree_of names d))
  as-written = subst (PrintsAndEnds d) (sym (setting-is names d)) prints

pub sums_are_printed : SumsArePrinted
sums_are_printed = record {
  as_written = as-written;
  in_normal_form = λ names d h.
      subst (λ q. PrintsAndEnds d (record { names = names; program = q })) (sym (core-kept names d)) (as-written names d h);
}
