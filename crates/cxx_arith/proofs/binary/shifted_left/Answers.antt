use Rattle.cxx_arith.proofs.Wide.{wide_shift, wide_shift_fits}
use Rattle.std.proofs.Common.{rules}
use Rattle.cxx_arith.proofs.binary.shifted_left.Goals as goal

pub overflow_mul-number : goal.overflow_mul-number
overflow_mul-number c = wide_shift_fits c.number.result c.args.count c.number.ensures.wide c.requires

pub returns : goal.returns
returns c =
    let e = rw (wide_shift c.number.result c.args.count c.number.ensures.wide c.requires) at c.value_of.ensures in
    search rules
