-- The example, by computing.
use Rattle.std.proofs.Common.{refl}
use Rattle.std.specs.Fmt.{digits}
use Rattle.entry_count.specs.PartCode.{beginning}
use Rattle.ghost_state.specs.GhostFrames.{source_thread}
use Rattle.ghost_state.specs.Example.{AreSeen, source_at, woven_at, woven_of, at_first, in_repair, ProtectedCellRuns, FramesAreRead, WordsAreRead}

pub protected-runs : ProtectedCellRuns
unfolding digits beginning
protected-runs = record { state = refl; output = refl; counts = refl }

first-source : AreSeen (source_thread at_first) (source_at 0)
unfolding digits
first-source = (refl, refl, refl, refl, refl, refl)

first-woven : AreSeen (woven_of at_first) (woven_at 0)
unfolding digits beginning
first-woven = (refl, refl, refl, refl, refl, refl)

repair-source : AreSeen (source_thread in_repair) (source_at 1)
unfolding digits
repair-source = (refl, refl, refl, refl, refl, refl)

repair-woven : AreSeen (woven_of in_repair) (woven_at 14)
unfolding digits beginning
repair-woven = (refl, refl, refl, refl, refl, refl)

pub frames-read : FramesAreRead
frames-read = record {
  first = first-source;
  first_woven = first-woven;
  repair = repair-source;
  repair_woven = repair-woven;
}

pub words-read : WordsAreRead
unfolding digits beginning
words-read = record {
  first = (refl, refl, refl);
  repair = (refl, refl, refl);
  body = (refl, refl, refl);
  renewal = (refl, refl, refl);
  leave = (refl, refl, refl);
}
