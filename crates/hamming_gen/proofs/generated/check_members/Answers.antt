use Rattle.std.proofs.Common.{ap, ◌∙◌}
use Rattle.hamming_gen.specs.HammingTrees.{word_member}
use Rattle.hamming_gen.proofs.Numbered.{one_more}
use Rattle.hamming_gen.proofs.generated.check_members.Goals as goal

pub loop-number-preserved : goal.loop-number-preserved
loop-number-preserved c =
    let is = c.word_member.ensures ∙ ap (word_member c.args.maker.at) c.in_ok-name.ensures in
    one_more _ c.loop-number.number _ _ _ is c.in_ok-push.ensures.ok c.loop-number.invariant
