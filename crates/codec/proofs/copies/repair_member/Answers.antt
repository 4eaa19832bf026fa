use Rattle.codec.proofs.Walks.{repaired}
use Rattle.codec.proofs.copies.repair_member.Goals as goal

pub returns : goal.returns
returns c =
    repaired c.args.names.now c.args.maker.at c.args.number c.args.member c.in_ok-vote.field-0 c.in_ok-vote_local.field-0 c.args.stmts.now c.push.new.self c.take_vote.new.stmts
    c.in_ok-vote_local.ensures c.in_ok-push.ensures.ok c.in_ok-vote.ensures c.in_ok-take_vote.ensures
