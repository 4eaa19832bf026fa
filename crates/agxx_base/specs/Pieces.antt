-- The bytes of a piece.
use Rattle.std.specs.Prelude.{ℕ, List, take}
use Rattle.agxx_base.specs.declared.piece.Piece.{Piece}

-- the first `len` bytes count
abbrev pub bytes_of : Piece → List ℕ
bytes_of piece = take piece.len piece.bytes
