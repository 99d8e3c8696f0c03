use Rattle.std.proofs.Common.{rules, ◌≡◌, refl, List, Option, Some, None}
use Rattle.aide_attr.specs.declared.attr.Attr.{Attr}
use Rattle.aide_attr.specs.code.Predefined.{IsGroupSet}
use Rattle.aide_attr.proofs.attr.Attr.from_name.Goals as goal

-- without a set there is no group
no_group : (o : Option (List Attr)) → IsGroupSet o None → o ≡ None
no_group None h = refl
no_group (Some bs) h = absurd h

pub returns-then-is_empty_name : goal.returns-then-is_empty_name
returns-then-is_empty_name c = search (rules, no_group)
