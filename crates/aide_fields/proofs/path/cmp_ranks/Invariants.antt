use Rattle.std.proofs.Common.{◌≡◌, length, map}
use Rattle.std.specs.Ordering.{nat_cmp}
use Rattle.std.specs.Cmp.Lexicographic.{slice_cmp}
use Rattle.percent_encoding.specs.Iter.{decoded_bytes}
use Rattle.aide_fields.specs.Path.{rank_of}
use Rattle.aide_fields.proofs.path.cmp_ranks.Given as goal

abbrev pub invariant-bytes : goal.invariant-bytes
invariant-bytes l =
    slice_cmp nat_cmp (map rank_of (decoded_bytes l.left)) (map rank_of (decoded_bytes l.right))
    ≡ slice_cmp nat_cmp (map rank_of (decoded_bytes l.x)) (map rank_of (decoded_bytes l.y))

abbrev pub decreases-bytes : goal.decreases-bytes
decreases-bytes l = length (decoded_bytes l.left)
