use Rattle.std.proofs.Common.{◌≡◌, ◌++◌, ◌+◌, ◌*◌, ◌≤◌, drop}
use Rattle.hamming_gen.specs.HammingNames as spec
use Rattle.hamming_gen.proofs.words.member_words.Given as goal

-- the words so far, and then those of the members that are left, are all. A position is at most twice as far as its
-- member
abbrev pub invariant-loop-index : goal.invariant-loop-index
invariant-loop-index l = record {
  all : l.words ++ spec.member_words l.names (l.index + 1) l.position (drop l.index l.members)
      ≡ spec.member_words l.names 1 3 l.members;
  near : l.position ≤ 2 * l.index + 3;
}
