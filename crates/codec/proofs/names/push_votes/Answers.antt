use Rattle.codec.proofs.Walks.{next_vote}
use Rattle.codec.proofs.names.push_votes.Goals as goal

pub loop-index-preserved : goal.loop-index-preserved
loop-index-preserved c =
    next_vote c.loop-index.index c.args.count _ c.loop-index.texts c.push.new.self _ c.loop-index-test.true c.in_ok-vote_text.ensures c.in_ok-push.ensures.ok c.loop-index.invariant
