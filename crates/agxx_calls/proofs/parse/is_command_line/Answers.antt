use Rattle.std.proofs.Common.{rules}
use Rattle.agxx_calls.proofs.Refused.{other-usage}
use Rattle.agxx_calls.proofs.parse.is_command_line.Goals as goal

pub returns-in-None : goal.returns-in-None
returns-in-None c f = other-usage c.in_ok-add_plain.field-0 c.args.words.now _ c.in_ok-add_plain.ensures (search rules)
