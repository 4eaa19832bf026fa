use Rattle.std.proofs.Common.{◌≡◌, drop, map}
use Rattle.cxx_tree.specs.StmtTree.{printed_tree}
use Rattle.cxx_distinct.specs.NamesIn.{names_in_each, names_in_printed}
use Rattle.cxx_distinct.specs.Sights.{seen}
use Rattle.cxx_distinct.proofs.sights.Sights.operands.Given as goal

-- the names that were gone through, and then those of what is left, are all
abbrev pub invariant-loop-operand : goal.invariant-loop-operand
invariant-loop-operand l = seen l.self (names_in_each names_in_printed (map printed_tree (drop l.operand-index l.operands))) ≡ seen l.fn.self (names_in_each names_in_printed (map printed_tree l.operands))
