use Rattle.std.proofs.Common.{sym, refl}
use Rattle.aide_entry.proofs.view.View.field.Goals as goal

pub returns-then-is_nought : goal.returns-then-is_nought
returns-then-is_nought c = rw (sym c.in-Opaque.ensures.same, sym c.in_ok-field.ensures, sym c.if-is_nought.ensures) refl
