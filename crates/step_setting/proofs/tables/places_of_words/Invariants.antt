use Rattle.std.proofs.Common.{◌≡◌, map, drop}
use Rattle.cxx_core.specs.ProgramView.{word_core}
use Rattle.step_setting.specs.Places.{places, with_places}
use Rattle.step_setting.specs.Tables.{word_names}
use Rattle.step_setting.proofs.tables.places_of_words.Given as goal

abbrev pub invariant-loop-word : goal.invariant-loop-word
invariant-loop-word l = with_places l.places (word_names (map word_core (drop l.word-index l.words))) ≡ places l.start (word_names (map word_core l.words))
