use Rattle.std.proofs.Common.{rules}
use Rattle.cxx_arith.proofs.Wide.{wide_quotient}
use Rattle.cxx_arith.proofs.binary.quotient.Goals as goal

pub returns : goal.returns
returns c =
    let e = rw (wide_quotient c.args.a c.args.b c.requires.a c.requires.b) at c.held_in.ensures in
    search rules
