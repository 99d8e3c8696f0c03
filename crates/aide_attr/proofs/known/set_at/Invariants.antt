use Rattle.std.proofs.Common.{◌≡◌, take}
use Rattle.std.specs.Prelude.{◌==◌, filter}
use Rattle.std.specs.List.{list_any}
use Rattle.aide_attr.specs.Attr.{slot_of}
use Rattle.aide_attr.specs.Set.{has, is_attr}
use Rattle.aide_attr.specs.declared.attr.Attr.{Attr}
use Rattle.aide_attr.proofs.known.set_at.Given as goal

abbrev pub invariant-loop-attr : goal.invariant-loop-attr
invariant-loop-attr l =
    (a : Attr) → has l.set a ≡ list_any (is_attr a) (filter (λ b. slot_of b == l.slot) (take l.attr-index l.attrs))
