use Rattle.std.proofs.Common.{◌-◌, ◌^◌, ◌∙◌, arith}
use Rattle.flip_plan.proofs.Digits.{digit_read}
use Rattle.flip_plan.proofs.numbers.value.Goals as goal

pub loop-digit-preserved : goal.loop-digit-preserved
loop-digit-preserved c =
    (digit_read c.loop-digit.n c.with_digit-n.result c.loop-digit.digit-index (2 ^ 32 - 1) c.args.digits.now (omega arith) c.with_digit-n.ensures ∙ c.loop-digit.invariant.0, omega arith)
