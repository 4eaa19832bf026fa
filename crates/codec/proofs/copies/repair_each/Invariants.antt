use Rattle.std.proofs.Common.{◌≡◌, ◌++◌, ◌+◌, map, drop}
use Rattle.cxx_tree.specs.StmtTree.{stmt_tree}
use Rattle.codec.specs.Copies as spec
use Rattle.codec.proofs.copies.repair_each.Given as goal

-- the statements so far, and then those of the members that are left, are all
abbrev pub invariant-loop-index : goal.invariant-loop-index
invariant-loop-index l =
    map stmt_tree l.stmts ++ spec.repair_from l.names l.maker.at (l.index + 1) (drop l.index l.members)
    ≡ spec.repair_from l.names l.maker.at 1 l.members
