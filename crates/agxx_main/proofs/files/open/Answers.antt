use Rattle.std.proofs.Common.{◌∙◌, refl, ap, Err}
use Rattle.std.specs.Prelude.{Some}
use Rattle.agxx_main.specs.Answers.{refused}
use Rattle.agxx_main.proofs.Opens.{text-given, large-given, fault-given}
use Rattle.agxx_main.proofs.files.open.Goals as goal

pub returns-in-Ok-clause-opening : goal.returns-in-Ok-clause-opening
returns-in-Ok-clause-opening g c = record {
  content = Some c.in-Ok.text;
  given = text-given c.args.file.now c.in-Ok.text (g.F.Files.listed c.args.files.now) _ _ c.in-Ok.ensures.answer.whole;
  opened = (refl, c.in-Ok.ensures.answer.within);
}

pub returns-in_ok-refused-in-Err-TooLarge-clause-opening : goal.returns-in_ok-refused-in-Err-TooLarge-clause-opening
returns-in_ok-refused-in-Err-TooLarge-clause-opening g c =
    let x = large-given c.args.file.now c.args.limit (g.F.Files.listed c.args.files.now) (g.F.Files.faults c.args.files.now) (g.F.Files.faults c.read_whole.new.files) c.in_ok-refused-in-Err-TooLarge.field-0
    (c.in-Err-TooLarge.ensures.answer.too_large (ap Err c.in-Err-TooLarge.field-0-is)) (c.in_ok-refused-in-Err-TooLarge.ensures ∙ ap (refused c.args.file.now) c.at_beginning.ensures) in
    record { content = x.0; given = x.1; opened = x.2 }

pub returns-in_ok-unreadable-in-Err-ReadFault-clause-opening : goal.returns-in_ok-unreadable-in-Err-ReadFault-clause-opening
returns-in_ok-unreadable-in-Err-ReadFault-clause-opening g c =
    let x = fault-given c.args.file.now c.args.limit (g.F.Files.listed c.args.files.now) (g.F.Files.faults c.args.files.now) (g.F.Files.faults c.read_whole.new.files) c.in_ok-unreadable-in-Err-ReadFault.field-0
    (c.in-Err-ReadFault.ensures.answer.read_fault (ap Err c.in-Err-ReadFault.field-0-is)) c.in_ok-unreadable-in-Err-ReadFault.ensures in
    record { content = x.0; given = x.1; opened = x.2 }
