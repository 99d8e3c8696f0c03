-- The set that the code makes of a predefined group.
use Rattle.std.specs.Prelude.{◌≡◌, List, Option, Some, None}
use Rattle.std.specs.List.{list_any}
use Rattle.aide_attr.specs.declared.attr.Attr.{Attr}
use Rattle.aide_attr.specs.declared.set.AttrSet.{AttrSet}
use Rattle.aide_attr.specs.Set.{has, is_attr}

-- the set has exactly the attributes of the group, and there is a set exactly if there is a group
abbrev pub IsGroupSet : Option (List Attr) → Option AttrSet → Type 0
IsGroupSet (Some bs) (Some s) = (a : Attr) → has s a ≡ list_any (is_attr a) bs
IsGroupSet None None = Unit {0}
IsGroupSet _ _ = ⊥
