-- Mutexes and changes of the code as those of the machine.
use Rattle.std.specs.Fmt.{signed_decimal}
use Rattle.cxx_arith.specs.Numbers.{number}
use Rattle.step_machine.specs.Effects as on
use Rattle.step_world.specs.declared.change.Lock as locks
use Rattle.step_world.specs.declared.change.Lock.TheVariants as lock
use Rattle.step_world.specs.declared.change.Change as changes
use Rattle.step_world.specs.declared.change.Change.TheVariants as change

abbrev pub lock_of : locks.Lock → on.Lock
lock_of (lock.Shared name) = on.shared name.0
lock_of (lock.Inside o m) = on.inside o.0 m

abbrev pub change_of : changes.Change → on.Change
change_of (change.Store o w bits) = on.store o.0 w bits
change_of (change.Assign name v) = on.assign name.0 v
change_of (change.Show text) = on.print text.now
change_of (change.Print v) = on.print (signed_decimal (number v))
change_of (change.Create class words) = on.create class words
change_of (change.Kill o) = on.kill o.0
change_of (change.Take l) = on.take (lock_of l)
change_of (change.Free l) = on.free (lock_of l)
