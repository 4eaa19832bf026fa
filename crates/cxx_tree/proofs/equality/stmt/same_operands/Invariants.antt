use Rattle.std.proofs.Common.{◌≡◌, ◌↔◌, drop, map}
use Rattle.cxx_tree.specs.Blank.{blank_printed}
use Rattle.cxx_tree.specs.StmtTree.{printed_tree}
use Rattle.cxx_tree.proofs.equality.stmt.same_operands.Given as goal

-- what is left of the lists is the same exactly where the whole lists are
abbrev pub invariant-loop-first : goal.invariant-loop-first
invariant-loop-first l =
    (map blank_printed (map printed_tree (drop l.first-index l.a)) ≡ map blank_printed (map printed_tree l.rest)) ↔ (map blank_printed (map printed_tree l.a) ≡ map blank_printed (map printed_tree l.fn.b))
