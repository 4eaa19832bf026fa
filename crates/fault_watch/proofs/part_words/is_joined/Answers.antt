use Rattle.std.proofs.Common.{sym, ◌∙◌}
use Rattle.fault_watch.proofs.Joined.{joined-rest, not-joined}
use Rattle.fault_watch.proofs.part_words.is_joined.Goals as goal

pub returns-then-starts_with : goal.returns-then-starts_with
returns-then-starts_with c =
    c.eq.ensures ∙ joined-rest c.args.text.now c.args.beginning.now c.args.rest.now (sym c.starts_with.ensures.value ∙ c.if-starts_with.true)

pub returns-else-starts_with : goal.returns-else-starts_with
returns-else-starts_with c =
    c.if-starts_with.false
    ∙ not-joined c.args.text.now c.args.beginning.now c.args.rest.now (sym c.starts_with.ensures.value ∙ c.if-starts_with.false)
