-- The exit status of each answer.
use Rattle.std.specs.Prelude.{ℕ}
use Rattle.agxx_base.specs.declared.status.Status.{Status}
use Rattle.agxx_base.specs.declared.status.Status.TheVariants.{Done, Refused, Usage, Stopped, Unfinished, Halted, ReadFault, WriteFault, Memory}

abbrev pub number_of : Status → ℕ
number_of Done = 0
number_of Refused = 1
number_of Usage = 2
number_of Stopped = 3
number_of Unfinished = 4
number_of Halted = 5
number_of ReadFault = 6
number_of WriteFault = 7
number_of Memory = 8
