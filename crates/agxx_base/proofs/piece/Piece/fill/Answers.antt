use Rattle.agxx_base.proofs.Pieces.{filled}
use Rattle.agxx_base.proofs.piece.Piece.fill.Goals as goal

pub returns-clause-bytes : goal.returns-clause-bytes
returns-clause-bytes c = filled _ _ _ _ c.min-len.ensures c.copy_from_slice.ensures.after
