use Rattle.std.proofs.Common.{◌≡◌, ◌++◌}
use Rattle.hamming_gen.specs.HammingNames as spec
use Rattle.hamming_gen.proofs.names.add_check_texts.Given as goal

-- the texts so far are those of the numbers so far
abbrev pub invariant-loop-number : goal.invariant-loop-number
invariant-loop-number l = l.texts ≡ l.fn.texts ++ spec.check_texts l.class l.number
