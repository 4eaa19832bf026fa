use Rattle.fault_model.proofs.CheckWords.{check-words-are-least}
use Rattle.fault_model.proofs.laws.check_words_are_least.Goals as goal

pub returns : goal.returns
returns c = check-words-are-least
