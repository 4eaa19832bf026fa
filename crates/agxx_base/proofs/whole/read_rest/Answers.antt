use Rattle.std.proofs.Common.{arith}
use Rattle.agxx_base.proofs.Readings.{larger}
use Rattle.agxx_base.specs.Pieces.{bytes_of}
use Rattle.agxx_base.proofs.whole.read_rest.Goals as goal

pub returns-then-count-limit-clause-too_large : goal.returns-then-count-limit-clause-too_large
returns-then-count-limit-clause-too_large g c _ =
    larger _ (g.F.Files.listed c.args.files.now) (g.F.Files.left c.args.files.now) c.loop-count.bytes.items (g.F.Files.left c.loop-count.files) (g.F.Files.left c.read.new.self) (bytes_of c.read.new.into) c.args.limit
    c.loop-count.invariant.told (rw c.loop-count.invariant.listed at c.in-Ok.ensures.next.next) (omega (arith, c.in-Ok.ensures.next.count.2, c.loop-count.invariant.within, c.len.ensures))
