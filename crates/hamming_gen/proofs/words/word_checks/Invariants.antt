use Rattle.std.proofs.Common.{◌≡◌, map}
use Rattle.std.specs.List.{range_with_len}
use Rattle.hamming_gen.specs.HammingNames as spec
use Rattle.hamming_gen.proofs.words.word_checks.Given as goal

-- the words so far are those of the numbers so far
abbrev pub invariant-loop-number : goal.invariant-loop-number
invariant-loop-number l =
    l.words ≡ map (spec.check_word l.names l.class) (range_with_len 0 l.number)
