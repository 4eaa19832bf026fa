use Rattle.std.proofs.Common.{rules}
use Rattle.cxx_arith.proofs.Wide.{wide_remainder}
use Rattle.cxx_arith.proofs.binary.remainder.Goals as goal

pub returns : goal.returns
returns c =
    let e = rw (wide_remainder c.args.a c.args.b c.requires.a c.requires.b) at c.value_of.ensures in
    search rules
