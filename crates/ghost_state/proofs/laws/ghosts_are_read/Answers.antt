use Rattle.ghost_state.proofs.Example.{frames-read, words-read}
use Rattle.ghost_state.proofs.laws.ghosts_are_read.Goals as goal

pub returns-clause-frames : goal.returns-clause-frames
returns-clause-frames c = frames-read

pub returns-clause-words : goal.returns-clause-words
returns-clause-words c = words-read
