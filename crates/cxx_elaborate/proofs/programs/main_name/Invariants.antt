use Rattle.std.specs.Prelude.{codes}
use Rattle.cxx_elaborate.proofs.MainName.{IsAfter}
use Rattle.cxx_elaborate.proofs.programs.main_name.Given as goal

abbrev pub invariant-loop-index : goal.invariant-loop-index
invariant-loop-index l = IsAfter l.names (codes "main") l.index
