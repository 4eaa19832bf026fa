use Rattle.cxx_layout.proofs.Members.{member_found, member_missed}
use Rattle.cxx_layout.proofs.parts.has_member.Goals as goal

pub returns-then-is_text : goal.returns-then-is_text
returns-then-is_text c =
    member_found c.args.names.now c.args.text.now c.args.members.now c.loop-index.index (c.entry.result.0.0, c.entry.result.1.now) c.is_text.result _ c.entry.ensures c.is_text.ensures c.if-is_text.true c.loop-index.invariant

pub loop-index-preserved : goal.loop-index-preserved
loop-index-preserved c =
    member_missed c.args.names.now c.args.text.now c.args.members.now c.loop-index.index (c.entry.result.0.0, c.entry.result.1.now) c.is_text.result _ c.entry.ensures c.is_text.ensures c.if-is_text.false c.loop-index.invariant
