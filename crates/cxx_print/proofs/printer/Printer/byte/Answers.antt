use Rattle.cxx_print.proofs.Printed.{appends-both, appends-byte}
use Rattle.cxx_print.proofs.printer.Printer.byte.Goals.{then-self-eq4096, else-self-eq4096}
use Rattle.cxx_print.proofs.printer.Printer.byte.Goals as goal

pub returns : goal.returns
returns g c = elim c.if-self-eq4096.branch [
  | then-self-eq4096 w ↦ rw (c.hold.ensures, w.self-is, w.sink-is) (appends-both w.flush.ensures.appends (appends-byte w.flush.new.self w.flush.new.sink c.args.byte))
  | else-self-eq4096 w ↦ rw (c.hold.ensures, w.self-is, w.sink-is) (appends-byte c.args.self.now c.args.sink.now c.args.byte)
]
