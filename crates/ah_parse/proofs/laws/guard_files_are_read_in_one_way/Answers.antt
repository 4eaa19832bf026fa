use Rattle.ah_parse.proofs.Files.{one_meaning, is_spelled}
use Rattle.ah_parse.proofs.laws.guard_files_are_read_in_one_way.Goals as goal

pub returns-clause-meaning : goal.returns-clause-meaning
returns-clause-meaning c = one_meaning

pub returns-clause-words : goal.returns-clause-words
returns-clause-words c = is_spelled
