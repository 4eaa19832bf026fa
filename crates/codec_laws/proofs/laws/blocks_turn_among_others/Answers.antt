use Rattle.codec_laws.proofs.BlockTurns.{blocks-turn}
use Rattle.codec_laws.proofs.laws.blocks_turn_among_others.Goals as goal

pub returns : goal.returns
returns c = blocks-turn
