use Rattle.std.proofs.Common.{◌<◌, length}
use Rattle.aide_fields.proofs.CutLemmas.{HasFront}
use Rattle.aide_fields.proofs.path.equal_words.Given as goal

abbrev pub invariant-words : goal.invariant-words
invariant-words l = record { some : 0 < l.size; front : HasFront l.x l.y l.left l.right l.count }

abbrev pub decreases-words : goal.decreases-words
decreases-words l = length l.left
