use Rattle.std.proofs.Common.{◌≡◌, ◌++◌, map, drop}
use Rattle.cxx_tree.specs.StmtTree.{stmt_tree}
use Rattle.codec.specs.Copies as spec
use Rattle.codec.proofs.copies.renew_each.Given as goal

-- the statements so far, and then those of the members that are left, are all
abbrev pub invariant-loop-member : goal.invariant-loop-member
invariant-loop-member l =
    map stmt_tree l.stmts ++ spec.renew_each l.names l.maker.at (drop l.member-index l.members)
    ≡ spec.renew_each l.names l.maker.at l.members
