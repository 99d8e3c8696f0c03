use Rattle.std.proofs.Common.{length}
use Rattle.aide_fields.proofs.CutLemmas.{HasFront}
use Rattle.aide_fields.proofs.path.equal_front.Given as goal

abbrev pub invariant-bytes : goal.invariant-bytes
invariant-bytes l = HasFront l.x l.y l.left l.right l.count

abbrev pub decreases-bytes : goal.decreases-bytes
decreases-bytes l = length l.left
