use Rattle.std.proofs.Common.{◌≡◌, drop}
use Rattle.cxx_tree.specs.ExprTree.{expr_tree}
use Rattle.hamming_gen.specs.HammingTrees as spec
use Rattle.hamming_gen.proofs.chains.matched.Given as goal

-- what is matched so far, and then the check words that are left, is all
abbrev pub invariant-loop-check : goal.invariant-loop-check
invariant-loop-check l =
    spec.matched l.maker.at (expr_tree l.all) l.position (drop l.check-index l.checks)
    ≡ spec.matched l.maker.at (expr_tree l.initial.all) l.position l.checks
