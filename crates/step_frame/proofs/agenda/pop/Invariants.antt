use Rattle.std.proofs.Common.{◌≡◌, length}
use Rattle.step_frame.specs.Agendas.{entries_on}
use Rattle.step_frame.proofs.agenda.pop.Given as goal

abbrev pub invariant-loop-entry : goal.invariant-loop-entry
invariant-loop-entry l = entries_on l.entries ≡ entries_on l.initial.entries

abbrev pub decreases-loop-entry : goal.decreases-loop-entry
decreases-loop-entry l = length l.entries
