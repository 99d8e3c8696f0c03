-- The bytes of a piece.
use Rattle.std.specs.Prelude.{ℕ, List, take}
use Rattle.aide_text.specs.declared.piece.Piece.{Piece}

-- the first bytes of the piece's array, as many as the piece counts
abbrev pub piece_text : Piece → List ℕ
piece_text p = take p.len p.bytes
