use Rattle.std.proofs.Common.{refl}
use Rattle.cxx_tree.specs.Words as w
use Rattle.cxx_print.specs.Document.{word}
use Rattle.cxx_print.proofs.Printed.{prints-one, appends-both}
use Rattle.cxx_print.proofs.printer.Printer.string.Goals as goal

pub returns : goal.returns
returns g c =
    prints-one (word (w.text c.args.string.now.bytes)) (appends-both c.put.ensures (appends-both (rw c.bytes.ensures at c.characters.ensures) c.put-2.ensures)) refl
