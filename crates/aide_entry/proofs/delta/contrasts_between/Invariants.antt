use Rattle.std.proofs.Common.{length}
use Rattle.std.specs.Prelude.{is_some}
use Rattle.aide_fields.specs.Attributes.{is_different}
use Rattle.aide_entry.specs.View.{entry_in}
use Rattle.aide_entry.proofs.AttrLoops.{AreFilling}
use Rattle.aide_entry.proofs.delta.contrasts_between.Given as goal

abbrev pub invariant-attrs : goal.invariant-attrs
invariant-attrs l = AreFilling l.in_old l.in_new l.differs l.rest (λ a. is_some ((entry_in l.fn.old).1 a))
    (λ a. is_some ((entry_in l.fn.new).1 a)) (λ a. is_different ((entry_in l.fn.old).1 a) ((entry_in l.fn.new).1 a))

abbrev pub decreases-attrs : goal.decreases-attrs
decreases-attrs l = length l.rest
