use Rattle.std.proofs.Common.{◌≡◌, length}
use Rattle.std.specs.Str.{bytes_eq}
use Rattle.percent_encoding.specs.Iter.{decoded_bytes}
use Rattle.aide_fields.proofs.value.same_texts.Given as goal

abbrev pub invariant-bytes : goal.invariant-bytes
invariant-bytes l =
    bytes_eq (decoded_bytes l.left) (decoded_bytes l.right) ≡ bytes_eq (decoded_bytes l.old) (decoded_bytes l.new)

abbrev pub decreases-bytes : goal.decreases-bytes
decreases-bytes l = length (decoded_bytes l.left)
