-- Places with what is true of them, and what they say.
use Rattle.std.specs.Prelude.{ℕ, Bool, false, List, [], ◌∷◌, Option, Some, None, is_some}
use Rattle.std.specs.Prelude.{option_and_then, reverse, find, if◌then◌else◌, Result}
use Rattle.std.specs.List.{list_any}
use Rattle.aide_attr.specs.declared.set.AttrSet.{AttrSet}
use Rattle.aide_attr.specs.declared.expression.ExprFault.{ExprFault}
use Rattle.aide_conf.specs.Cutting.{Place}
use Rattle.aide_conf.specs.Effect.{same, Effect, Nothing}
use Rattle.aide_conf.specs.Directive.{line_effect}

-- A place, and what is true of it: whether it is used, how many lines of its text enclose it, and whether it is in the
-- second part of the innermost block. If it opens a block: whether it chooses the first part. Also its bytes after
-- expansion, and what its expression means or why it has no meaning.
pub record Marked : Type 0 where
  pub place : Place
  pub used : Bool
  pub depth : ℕ
  pub divided : Bool
  pub first : Bool
  pub expanded : List ℕ
  pub verdict : Option (Result AttrSet ExprFault)

-- what a line says, used or not, by its expansion; the end of a text says nothing
abbrev pub line_says : Option (List ℕ) → Bool → List ℕ → Effect
line_says None used expanded = Nothing
line_says (Some line) used expanded = line_effect used line expanded

-- what a place says; the end of a text says nothing
unfoldable pub says : Marked → Effect
says x = line_says x.place.line x.used x.expanded

-- the value at the last place that has one
unfoldable pub last_given : {V : Type 0} → (Marked → Option V) → List Marked → Option V
last_given f xs = option_and_then f (find (λ x. is_some (f x)) (reverse xs))

-- a name is given, and it is this one
abbrev pub is_name : List ℕ → Option (List ℕ) → Bool
is_name n None = false
is_name n (Some m) = same n m

-- these names, and one more if a name is given that is not among them
abbrev pub add_name : Option (List ℕ) → List (List ℕ) → List (List ℕ)
add_name None ns = ns
add_name (Some n) ns = if list_any (same n) ns then ns else n ∷ ns

-- the names that places give, each once
abbrev pub names_given : (Effect → Option (List ℕ)) → List Marked → List (List ℕ)
names_given f [] = []
names_given f (x ∷ xs) = add_name (f (says x)) (names_given f xs)
