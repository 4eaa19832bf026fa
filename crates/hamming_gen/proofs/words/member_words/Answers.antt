use Rattle.std.proofs.Common.{arith}
use Rattle.hamming_gen.proofs.Members.{next_word}
use Rattle.hamming_gen.proofs.words.member_words.Goals as goal

pub loop-index-preserved : goal.loop-index-preserved
loop-index-preserved c = record {
  all =
      next_word c.args.names.now c.args.members.now c.loop-index.index c.loop-index.position _ _ _ _ _ _
      c.loop-index-test.true c.in_ok-word.ensures c.next_position-position.ensures.next c.in_ok-push.ensures.ok
      c.loop-index.invariant.all;
  near = omega arith;
}
