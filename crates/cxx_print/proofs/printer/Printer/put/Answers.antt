use Rattle.std.proofs.Common.{refl}
use Rattle.cxx_print.proofs.Printed.{appends-turn, appends-done}
use Rattle.cxx_print.proofs.printer.Printer.put.Goals as goal

pub loop-byte-init : goal.loop-byte-init
loop-byte-init g c = λ u h. h

pub loop-byte-preserved : goal.loop-byte-preserved
loop-byte-preserved g c =
    appends-turn (λ bytes. bytes) c.args.bytes.now c.loop-byte.byte-index c.loop-byte-test.true (λ ys. refl) c.loop-byte.invariant c.byte.ensures

pub returns : goal.returns
returns g c = appends-done (λ bytes. bytes) c.args.bytes.now c.loop-byte.byte-index c.loop-byte-test.false refl c.loop-byte.invariant
