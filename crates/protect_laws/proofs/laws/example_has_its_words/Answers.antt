use Rattle.protect_laws.proofs.Example.{cell-has-its-words}
use Rattle.protect_laws.proofs.laws.example_has_its_words.Goals as goal

pub returns : goal.returns
returns c = cell-has-its-words
