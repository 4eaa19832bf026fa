use Rattle.std.proofs.Common.{arith}
use Rattle.hamming_gen.proofs.Enough.{all_left, next_left, next_power, few}
use Rattle.hamming_gen.proofs.positions.check_words.Goals as goal

pub loop-count-init : goal.loop-count-init
loop-count-init c = record { left = all_left c.args.members; power = search; small = omega arith }

pub returns-then-members-count-clause-few : goal.returns-then-members-count-clause-few
returns-then-members-count-clause-few c =
    few c.args.members c.loop-count.count c.loop-count.power
    c.requires (omega arith) c.loop-count.invariant.power c.loop-count.invariant.small

pub loop-count-preserved : goal.loop-count-preserved
loop-count-preserved c = record {
  left =
      next_left c.args.members c.loop-count.count c.loop-count.power _
      c.loop-count.invariant.power c.if-members-count.false c.loop-count-test.true c.loop-count.invariant.left;
  power = next_power c.loop-count.count c.loop-count.power c.loop-count.invariant.power;
  small = omega arith;
}

pub returns-clause-few : goal.returns-clause-few
returns-clause-few c =
    let all =
    few c.args.members c.loop-count.count c.loop-count.power
    c.requires (omega arith) c.loop-count.invariant.power c.loop-count.invariant.small in
    omega arith
