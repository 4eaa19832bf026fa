use Rattle.std.proofs.Common.{◌≡◌, ◌-◌, ◌^◌, ◌≤◌, fold, drop}
use Rattle.std.specs.Prelude.{min}
use Rattle.flip_plan.specs.Numbers.{with_digit, value}
use Rattle.flip_plan.proofs.numbers.value.Given as goal

abbrev pub invariant-loop-digit : goal.invariant-loop-digit
invariant-loop-digit l = (min (fold with_digit l.n (drop l.digit-index l.digits)) (2 ^ 32 - 1) ≡ value l.digits) × (l.n ≤ 2 ^ 32 - 1)
