use Rattle.std.proofs.Common.{length}
use Rattle.aide_agreement.proofs.sets.+set_of.Given as goal

abbrev pub decreases-set_of : goal.decreases-set_of
decreases-set_of l = length l.attrs.now
