use Rattle.std.proofs.Common.{◌≡◌, ◌++◌, drop}
use Rattle.hamming_gen.specs.HammingTrees as spec
use Rattle.hamming_gen.proofs.lists.sum_names.Given as goal

-- the names so far, and then those of the check words that are left, are all
abbrev pub invariant-loop-check : goal.invariant-loop-check
invariant-loop-check l =
    l.names ++ spec.sum_names (drop l.check-index l.checks) ≡ spec.sum_names l.checks
