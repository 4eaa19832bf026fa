use Rattle.protect.proofs.Appends.{with_own_texts}
use Rattle.protect.proofs.texts.add_own_texts.Goals as goal

pub returns : goal.returns
returns c = with_own_texts _ _ _ _ _ _ _ c.text_of.ensures c.in_ok-part_texts.ensures c.in_ok-add_code_texts.ensures
