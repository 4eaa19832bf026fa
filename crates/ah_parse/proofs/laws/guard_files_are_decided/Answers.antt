use Rattle.ah_parse.proofs.Decided.{guard-file-or-none}
use Rattle.ah_parse.proofs.laws.guard_files_are_decided.Goals as goal

pub returns : goal.returns
returns c = guard-file-or-none
