use Rattle.std.proofs.Common.{rules}
use Rattle.cxx_arith.proofs.Wide.{wide_opposite, wide_complement}
use Rattle.cxx_arith.proofs.unary.apply_one.Goals as goal

pub returns-in-Negate : goal.returns-in-Negate
returns-in-Negate c =
    let e = rw (wide_opposite c.number.result c.number.ensures.wide) at c.held_in.ensures in
    search rules

pub returns-in-Complement : goal.returns-in-Complement
returns-in-Complement c =
    let e = rw (wide_complement c.number-in-Complement.result c.number-in-Complement.ensures.wide) at c.value_of.ensures in
    search rules
