-- When marks are right: each says what is so after the places before it.
use Rattle.std.specs.Prelude.{ℕ, ◌≡◌, Bool, true, false, List, [], ◌∷◌, ◌++◌, Option, Some, None}
use Rattle.std.specs.Prelude.{◌↔◌}
use Rattle.aide_conf.specs.declared.task.Need.{Need}
use Rattle.aide_conf.specs.Cutting.{Place}
use Rattle.aide_conf.specs.Directive.{line_grows}
use Rattle.aide_conf.specs.Blocks.{AreEnclosing, EnclosedWell, IsDivided, IsUsedRight}
use Rattle.aide_conf.specs.Expansion.{IsExpansion}
use Rattle.aide_conf.specs.Marks.{Marked, says}
use Rattle.aide_conf.specs.MarkedBlocks.{seen, seen_in, chooses_at}
use Rattle.aide_conf.specs.MarkedGroups.{expression_in, meaning_after, IsJudgedWell}
use Rattle.aide_conf.specs.MarkedVariables.{is_defined, value, text_to_expand}
use Rattle.aide_conf.specs.FaultOrder.{fault_at}

-- the marks of a place that follows these places are right
pub record IsMarkedWell (earlier : List Marked) (x : Marked) : Type 0 where
  pub is_used : IsUsedRight (seen_in x.place.text earlier) (seen x)
  pub is_enclosed : AreEnclosing x.depth (seen_in x.place.text earlier)
  pub is_divided : (x.divided ≡ true) ↔ IsDivided (seen_in x.place.text earlier)
  pub is_first : x.first ≡ chooses_at (is_defined earlier) x.place.line
  pub is_expanded : IsExpansion (value earlier) (text_to_expand x.place.line) x.expanded
  pub is_judged : IsJudgedWell (meaning_after earlier) (expression_in (says x)) x.verdict

-- whether memory may be allocated at a place, which it never is at the end of a text
abbrev pub place_grows : Bool → ℕ → Option (List ℕ) → Bool
place_grows used depth None = false
place_grows used depth (Some line) = line_grows used depth line

-- A place that follows these and at which memory may be allocated: its line is expanded, or opens a block.
pub record Grows (earlier : List Marked) (at : Place) : Type 0 where
  pub used : Bool
  pub depth : ℕ
  pub is_used : (used ≡ true) ↔ EnclosedWell (seen_in at.text earlier)
  pub is_enclosed : AreEnclosing depth (seen_in at.text earlier)
  pub grows : place_grows used depth at.line ≡ true

-- the marks of all places are right, each after those before it, and no place has a fault
abbrev pub AreSound : Need → List Marked → List Marked → Type 0
AreSound need earlier [] = Unit {0}
AreSound need earlier (x ∷ xs) = IsMarkedWell earlier x × (fault_at need earlier x ≡ None)
    × AreSound need (earlier ++ x ∷ []) xs
