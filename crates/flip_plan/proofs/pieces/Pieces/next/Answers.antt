use Rattle.std.proofs.Common.{sym, ◌∙◌}
use Rattle.flip_plan.proofs.Parts.{left_last, left_cut}
use Rattle.flip_plan.proofs.pieces.Pieces.next.Goals as goal

pub returns-in-empty : goal.returns-in-empty
returns-in-empty c =
    sym c.self.view_is ∙ left_last c.self.inside.is_over c.self.inside.separator c.self.inside.left.now c.part_len.result c.split_at.result.0.now c.split_at.result.1.now c.if-self.false c.part_len.ensures.value c.split_at.ensures.front c.split_at.ensures.back c.in-empty.len_below

pub returns-in-len1-up : goal.returns-in-len1-up
returns-in-len1-up c =
    sym c.self.view_is ∙ left_cut c.self.inside.is_over c.self.inside.separator c.self.inside.left.now c.part_len.result c.split_at.result.0.now c.split_at.result.1.now c.if-self.false c.part_len.ensures.value c.split_at.ensures.front c.split_at.ensures.back c.in-len1-up.len_at_least
