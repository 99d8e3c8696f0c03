-- The groups after some places, and what expressions mean there.
use Rattle.std.specs.Prelude.{ℕ, ◌≡◌, Bool, not, ◌&&◌, nat_le, List, length, Option, Some, None}
use Rattle.std.specs.Prelude.{option_map, reverse, if◌then◌else◌, Result, Ok, Err}
use Rattle.std.specs.List.{list_any}
use Rattle.std.specs.Option.{option_or}
use Rattle.aide_attr.specs.declared.attr.Attr.{Attr}
use Rattle.aide_attr.specs.declared.set.AttrSet.{AttrSet}
use Rattle.aide_attr.specs.declared.expression.ExprFault.{ExprFault}
use Rattle.aide_attr.specs.Set.{has}
use Rattle.aide_attr.specs.Known.{predefined}
use Rattle.aide_attr.specs.Expression.{IsMeaning, IsFault}
use Rattle.aide_conf.specs.Effect.{same, Effect, SetsAttributes, DefinesGroup}
use Rattle.aide_attr.specs.Groups.{most_groups}
use Rattle.aide_conf.specs.Marks.{Marked, says, last_given, is_name, names_given}

-- the set that an expression means, if it means one
abbrev pub set_meant : Option (Result AttrSet ExprFault) → Option AttrSet
set_meant None = None
set_meant (Some (Ok s)) = Some s
set_meant (Some (Err e)) = None

-- the expression that a line has, for an option or for a group
abbrev pub expression_in : Effect → Option (List ℕ)
expression_in (SetsAttributes l e) = Some e
expression_in (DefinesGroup n e) = Some e
expression_in _ = None

-- the name of the group that a line defines
abbrev pub group_name_of : Effect → Option (List ℕ)
group_name_of (DefinesGroup n e) = Some n
group_name_of _ = None

-- the set that a place gives to the group of a name
abbrev pub group_in : List ℕ → Marked → Option AttrSet
group_in n x = if is_name n (group_name_of (says x)) then set_meant x.verdict else None

-- the set of a group after these places: that of its last definition
abbrev pub group : List Marked → List ℕ → Option AttrSet
group xs n = last_given (group_in n) xs

-- the meaning of a name in an expression after these places
abbrev pub meaning_after : List Marked → List ℕ → Option (Attr → Bool)
meaning_after xs n = option_or (option_map has (group xs n)) (predefined n)

-- the names of the groups that these places define, each once
unfoldable pub group_names : List Marked → List (List ℕ)
group_names xs = names_given group_name_of (reverse xs)

-- whether this would be the 1,025th group
unfoldable pub is_too_many : List Marked → List ℕ → Bool
is_too_many xs n =
    not (list_any (same n) (group_names xs)) && nat_le most_groups (length (group_names xs))

-- A verdict is right: it is what the expression means or why it has no meaning. Without an expression there is none.
abbrev pub IsJudgedWell : (List ℕ → Option (Attr → Bool)) → Option (List ℕ)
    → Option (Result AttrSet ExprFault) → Type 0
IsJudgedWell look None verdict = verdict ≡ None
IsJudgedWell look (Some text) None = ⊥
IsJudgedWell look (Some text) (Some (Ok s)) = IsMeaning look text s
IsJudgedWell look (Some text) (Some (Err e)) = IsFault look text e
