use Rattle.std.proofs.Common.{◌≡◌, ◌++◌, drop}
use Rattle.hamming_gen.specs.HammingTrees as spec
use Rattle.hamming_gen.proofs.lists.covered.Given as goal

-- the names so far, and then those of the members that are left, are all
abbrev pub invariant-loop-member : goal.invariant-loop-member
invariant-loop-member l =
    l.names ++ spec.covered l.power (drop l.member-index l.members) ≡ spec.covered l.power l.members
