use Rattle.std.proofs.Common.{◌≡◌, true}
use Rattle.cxx_arith.specs.Kinds as kinds
use Rattle.cxx_arith.proofs.Wide.{wide_product}
use Rattle.cxx_arith.proofs.binary.product.Goals as goal

pub returns-then-is_signed : goal.returns-then-is_signed
returns-then-is_signed c =
    let signed : kinds.is_signed c.args.kind ≡ true = cc in
    rw (wide_product _ c.args.a c.args.b signed c.requires.a c.requires.b) at c.held_in.ensures
