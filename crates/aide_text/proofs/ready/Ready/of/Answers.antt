use Rattle.std.proofs.Math.Seq.{take-append_seam}
use Rattle.aide_text.proofs.ready.Ready.of.Goals as goal

pub returns : goal.returns
returns c = rw c.copy_from_slice.ensures.after (search take-append_seam)
