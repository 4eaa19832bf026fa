use Rattle.std.proofs.Common.{◌≡◌, ◌++◌, map, drop}
use Rattle.cxx_tree.specs.StmtTree.{stmt_tree}
use Rattle.hamming_gen.specs.HammingTrees as spec
use Rattle.hamming_gen.proofs.repair.check_faults.Given as goal

-- the statements so far, and then those of the words that are left, are all
abbrev pub invariant-loop-check : goal.invariant-loop-check
invariant-loop-check l =
    map stmt_tree l.stmts ++ map (spec.check_fault l.maker.at l.words) (drop l.check-index l.checks)
    ≡ map (spec.check_fault l.maker.at l.words) l.checks
