use Rattle.std.proofs.Common.{◌≡◌, drop, map}
use Rattle.cxx_tree.specs.StmtTree.{printed_tree}
use Rattle.cxx_types.specs.Statements.{all_printed}
use Rattle.cxx_types.proofs.checker.Checker.all_printed.Given as goal

abbrev pub invariant-loop-operand : goal.invariant-loop-operand
invariant-loop-operand l =
    all_printed l.context (map printed_tree (drop l.operand-index l.operands)) l.self ≡ all_printed l.context (map printed_tree l.operands) l.fn.self
