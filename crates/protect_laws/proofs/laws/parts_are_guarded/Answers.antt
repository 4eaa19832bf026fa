use Rattle.protect_laws.proofs.Members.{parts-are-guarded, members-are-added}
use Rattle.protect_laws.proofs.PartWords.{words-are-added}
use Rattle.protect_laws.proofs.laws.parts_are_guarded.Goals as goal

pub returns : goal.returns
returns c = record { parts = parts-are-guarded; members = members-are-added; words = words-are-added }
