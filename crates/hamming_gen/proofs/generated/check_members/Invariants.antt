use Rattle.std.proofs.Common.{◌≡◌, map}
use Rattle.std.specs.List.{range_with_len}
use Rattle.hamming_gen.specs.HammingNames as generated
use Rattle.hamming_gen.specs.HammingTrees as spec
use Rattle.hamming_gen.proofs.generated.check_members.Given as goal

-- the members so far are those of the numbers so far
abbrev pub invariant-loop-number : goal.invariant-loop-number
invariant-loop-number l =
    l.members
    ≡ map (λ j. spec.word_member l.maker.at (generated.check_name l.names l.class j)) (range_with_len 0 l.number)
