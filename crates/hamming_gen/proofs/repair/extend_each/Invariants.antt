use Rattle.std.proofs.Common.{◌≡◌, ◌++◌, map, drop}
use Rattle.cxx_tree.specs.StmtTree.{stmt_tree}
use Rattle.hamming_gen.specs.HammingTrees as spec
use Rattle.hamming_gen.proofs.repair.extend_each.Given as goal

-- the statements so far, and then those of the words that are left, are all
abbrev pub invariant-loop-member : goal.invariant-loop-member
invariant-loop-member l =
    map stmt_tree l.stmts ++ map (spec.extend l.maker.at) (drop l.member-index l.members)
    ≡ map (spec.extend l.maker.at) l.members
