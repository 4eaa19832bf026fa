use Rattle.cxx_print.proofs.Printed.{prints-both}
use Rattle.cxx_print.proofs.printer.Printer.class_body.Goals as goal

pub returns : goal.returns
returns g c =
    prints-both c.sign.ensures (prints-both c.newline.ensures (prints-both c.items.ensures (prints-both c.sign-2.ensures c.semicolon.ensures)))
