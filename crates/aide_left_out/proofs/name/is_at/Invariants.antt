use Rattle.std.proofs.Common.{◌≡◌, length}
use Rattle.percent_encoding.specs.Iter.{decoded_bytes}
use Rattle.aide_left_out.specs.Settings.{is_at}
use Rattle.aide_left_out.proofs.name.is_at.Given as goal

abbrev pub invariant-bytes : goal.invariant-bytes
invariant-bytes l = is_at l.left (decoded_bytes l.rest) ≡ is_at l.front (decoded_bytes l.path)

abbrev pub decreases-bytes : goal.decreases-bytes
decreases-bytes l = length (decoded_bytes l.rest)
