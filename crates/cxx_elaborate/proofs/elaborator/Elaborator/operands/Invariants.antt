use Rattle.std.proofs.Common.{◌≡◌, ◌++◌, drop, map}
use Rattle.cxx_tree.specs.StmtTree.{printed_tree}
use Rattle.cxx_core.specs.StmtView.{printed_core}
use Rattle.cxx_core.specs.ElaboratedStmt.{core_printed}
use Rattle.cxx_elaborate.proofs.elaborator.Elaborator.operands.Given as goal

abbrev pub invariant-loop-operand : goal.invariant-loop-operand
invariant-loop-operand l =
    map printed_core l.made ++ map (core_printed l.self l.scope) (map printed_tree (drop l.operand-index l.operands)) ≡ map (core_printed l.self l.scope) (map printed_tree l.operands)
