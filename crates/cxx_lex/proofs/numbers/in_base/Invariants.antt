use Rattle.std.proofs.Common.{◌≡◌, ◌<◌, ◌+◌, ◌*◌, ◌^◌, fold, drop}
use Rattle.cxx_lex.specs.Numbers.{in_base, digit_value}
use Rattle.cxx_lex.proofs.numbers.in_base.Given as goal

abbrev pub invariant-loop-digit : goal.invariant-loop-digit
invariant-loop-digit l = (fold (λ n b. n * l.radix + digit_value b) l.value (drop l.digit-index l.digits) ≡ in_base l.radix l.digits) × (l.value < 2 ^ 64)
