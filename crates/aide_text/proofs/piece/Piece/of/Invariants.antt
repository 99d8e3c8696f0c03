use Rattle.std.proofs.Common.{◌-◌, ◌≡◌, ◌≤◌, ◌++◌, take, length}
use Rattle.aide_text.proofs.piece.Piece.of.Given as goal

abbrev pub invariant-bytes : goal.invariant-bytes
invariant-bytes g l = record {
  fits : l.len ≤ 32;
  size : length l.bytes ≡ 32;
  whole : take l.len l.bytes ++ g.T.Feed.rest l.text ≡ g.T.Feed.rest l.fn.text;
}

abbrev pub decreases-bytes : goal.decreases-bytes
decreases-bytes g l = 32 - l.len
