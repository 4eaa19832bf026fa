-- What stands below the top of a stack of values.
use Rattle.std.specs.Prelude.{ℕ, zero, suc, List}
use Rattle.step_machine.specs.declared.datum.Datum.{Datum}
use Rattle.step_machine.specs.Data.{rest}

-- without so many values from the top
abbrev pub under : ℕ → List Datum → List Datum
under zero vs = vs
under (suc n) vs = rest (under n vs)
