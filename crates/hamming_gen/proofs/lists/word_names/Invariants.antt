use Rattle.std.proofs.Common.{◌≡◌, [], ◌++◌, drop}
use Rattle.hamming_gen.specs.HammingTrees as spec
use Rattle.hamming_gen.proofs.lists.word_names.Given as goal

-- the names so far, and then those of the check words that are left, are those of all check words
abbrev pub invariant-loop-check : goal.invariant-loop-check
invariant-loop-check l =
    l.names ++ spec.check_names (drop l.check-index l.checks) ≡ spec.check_names l.checks

-- the names so far, and then those of the members that are left, are all
abbrev pub invariant-loop-member : goal.invariant-loop-member
invariant-loop-member l =
    l.names ++ spec.word_names [] (drop l.member-index l.members) ≡ spec.word_names l.checks l.members
