use Rattle.std.proofs.Common.{drop}
use Rattle.cxx_tree.specs.StmtTree.{printed_tree}
use Rattle.cxx_normal.specs.Numbers.{number_printed}
use Rattle.cxx_normal.proofs.Loops.{IsNumbered, parts}
use Rattle.cxx_normal.proofs.numbering.Numbering.operands.Given as goal

abbrev pub invariant-loop-operand : goal.invariant-loop-operand
invariant-loop-operand l =
    IsNumbered printed_tree number_printed (parts printed_tree number_printed l.operands l.fn.self.next) l.copies (drop l.operand-index l.operands) l.self.next
