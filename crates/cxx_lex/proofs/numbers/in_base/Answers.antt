use Rattle.std.proofs.Common.{◌+◌, ◌*◌, fold, refl, sym, ◌∙◌, ap, arith, drop_of_length-le}
use Rattle.cxx_lex.specs.Numbers.{digit_value}
use Rattle.cxx_lex.specs.NumberScan.{held}
use Rattle.cxx_lex.proofs.NumberValues.{in_base-large, held-small}
use Rattle.cxx_lex.proofs.numbers.in_base.Goals as goal

pub returns-in_err-value : goal.returns-in_err-value
returns-in_err-value c =
    c.from_residual.ensures ∙ in_base-large c.args.radix c.loop-digit.value _ c.loop-digit.digit-index c.args.digits.now (omega arith) (omega arith) refl (sym (c.in_err-value.was) ∙ c.with_digit.ensures) c.loop-digit.invariant.0

pub returns : goal.returns
returns c =
    held-small c.loop-digit.value c.loop-digit.invariant.1
    ∙ ap held (ap (fold (λ n b. n * c.args.radix + digit_value b) c.loop-digit.value) (sym (drop_of_length-le c.args.digits.now c.loop-digit-test.false)) ∙ c.loop-digit.invariant.0)
