use Rattle.protect.proofs.Appends.{with_part_items}
use Rattle.protect.proofs.added.add_code.Goals as goal

pub returns : goal.returns
returns g c = with_part_items _ _ _ _ _ _ _ c.in_ok-code.ensures.members c.in_ok-code.ensures.functions c.in_ok-add_each.ensures
