use Rattle.cxx_lex.proofs.Stays.{steps_one_way}
use Rattle.cxx_lex.proofs.laws.lexers_step_in_one_way.Goals as goal

pub returns : goal.returns
returns c = steps_one_way
