use Rattle.std.proofs.Common.{◌≡◌, drop}
use Rattle.cxx_tree.specs.ExprTree.{expr_tree}
use Rattle.hamming_gen.specs.HammingTrees as spec
use Rattle.hamming_gen.proofs.chains.joined.Given as goal

-- what is joined so far, and then the names that are left, is all
abbrev pub invariant-loop-name : goal.invariant-loop-name
invariant-loop-name l =
    spec.joined l.maker.at l.op (expr_tree l.all) (drop l.name-index l.names)
    ≡ spec.joined l.maker.at l.op (expr_tree l.initial.all) l.names
