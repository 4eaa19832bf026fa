use Rattle.std.proofs.Common.{◌≡◌, [], ◌++◌, drop}
use Rattle.hamming_gen.specs.HammingTrees as spec
use Rattle.hamming_gen.proofs.lists.fault_names.Given as goal

-- the names so far, and then those of the members that are left, are those of all members
abbrev pub invariant-loop-member : goal.invariant-loop-member
invariant-loop-member l =
    l.names ++ spec.fault_names [] (drop l.member-index l.members) ≡ spec.fault_names [] l.members

-- the names so far, and then those of the check words that are left, are all
abbrev pub invariant-loop-check : goal.invariant-loop-check
invariant-loop-check l =
    l.names ++ spec.fault_names (drop l.check-index l.checks) [] ≡ spec.fault_names l.checks l.members
