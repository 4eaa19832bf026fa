use Rattle.std.proofs.Common.{◌≡◌, ◌++◌, drop, map}
use Rattle.cxx_tree.specs.StmtTree.{printed_tree}
use Rattle.cxx_copy.proofs.copier.Copier.operands.Given as goal

-- what was copied, and then what is left, is the whole
abbrev pub invariant-loop-operand : goal.invariant-loop-operand
invariant-loop-operand l = map printed_tree l.copies ++ map printed_tree (drop l.operand-index l.operands) ≡ map printed_tree l.operands
