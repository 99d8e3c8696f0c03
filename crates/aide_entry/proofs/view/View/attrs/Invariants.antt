use Rattle.std.proofs.Common.{◌≡◌, length}
use Rattle.std.specs.Prelude.{◌&&◌, ◌||◌, is_some}
use Rattle.std.specs.List.{list_any}
use Rattle.aide_attr.specs.Set.{has, is_attr}
use Rattle.aide_attr.specs.declared.attr.Attr.{Attr}
use Rattle.aide_entry.specs.View.{entry_in}
use Rattle.aide_entry.proofs.view.View.attrs.Given as goal

abbrev pub invariant-attrs : goal.invariant-attrs
invariant-attrs l =
    (a : Attr) → (has l.set a || (list_any (is_attr a) l.rest && is_some ((entry_in l.self).1 a))) ≡ is_some ((entry_in l.self).1 a)

abbrev pub decreases-attrs : goal.decreases-attrs
decreases-attrs l = length l.rest
