use Rattle.std.proofs.Common.{◌≡◌, ◌++◌, ◌+◌, ◌-◌}
use Rattle.codec.specs.Copies as spec
use Rattle.codec.proofs.names.push_votes.Given as goal

-- the texts so far, and then those of the locals that are left, are all
abbrev pub invariant-loop-index : goal.invariant-loop-index
invariant-loop-index l = l.texts ++ spec.vote_texts (l.index + 1) (l.count - l.index) ≡ l.fn.texts ++ spec.vote_texts 1 l.count
