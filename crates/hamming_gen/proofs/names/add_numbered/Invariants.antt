use Rattle.std.proofs.Common.{◌≡◌, ◌++◌}
use Rattle.hamming_gen.specs.HammingNames as spec
use Rattle.hamming_gen.proofs.names.add_numbered.Given as goal

-- the texts so far are those of the numbers so far
abbrev pub invariant-loop-index : goal.invariant-loop-index
invariant-loop-index l = l.texts ≡ l.fn.texts ++ spec.numbered_texts l.beginning l.first l.index
