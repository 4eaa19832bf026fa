use Rattle.std.proofs.Common.{◌≡◌, ◌++◌, drop, map}
use Rattle.cxx_tree.specs.ProgramTree.{item_tree}
use Rattle.cxx_core.specs.ProgramView.{name_core}
use Rattle.cxx_core.specs.ElaboratedProgram.{mutexes}
use Rattle.cxx_elaborate.proofs.elaborator.Elaborator.mutexes.Given as goal

abbrev pub invariant-loop-item : goal.invariant-loop-item
invariant-loop-item l =
    map name_core l.mutexes ++ mutexes (map item_tree (drop l.item-index l.items)) ≡ mutexes (map item_tree l.items)
