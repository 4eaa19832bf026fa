use Rattle.std.proofs.Common.{◌≡◌, ◌+◌, ◌-◌, ◌*◌, ◌^◌, ◌≤◌}
use Rattle.hamming_gen.specs.Positions.{enough_from, check_words}
use Rattle.hamming_gen.proofs.positions.check_words.Given as goal

-- the numbers so far weren't enough, and the power is that of the next one
abbrev pub invariant-loop-count : goal.invariant-loop-count
invariant-loop-count l = record {
  left : enough_from l.members l.count (l.members + 1 - l.count) ≡ check_words l.members;
  power : l.power ≡ 2 ^ l.count;
  small : l.power ≤ 2 * (l.members + l.count) + 1;
}
