use Rattle.std.proofs.Common.{◌∙◌}
use Rattle.cxx_print.proofs.Printed.{taken-all}
use Rattle.cxx_print.proofs.writing.to_text.Goals as goal

pub returns-in-Ok : goal.returns-in-Ok
returns-in-Ok c = c.into_text.ensures ∙ taken-all _ _ _ c.new-sink.ensures c.in-Ok.ensures.all
