-- How many bytes of the databases are in memory in a run.
use Rattle.std.specs.Prelude.{ℕ, ◌≡◌, ◌≤◌, ◌+◌, ◌⊎◌, max, Option, Some, List, length}
use Rattle.aide_db.specs.CursorView.{CursorView}
use Rattle.aide_db.specs.DeskView.{DeskView}
use Rattle.aide_db.specs.Longest.{longest_line}
use Rattle.aide_db.specs.Side.{by_side}
use Rattle.aide_db.specs.declared.limits.Limits.{Limits}
use Rattle.aide_db.specs.declared.side.Side.{Side}
use Rattle.aide_db.specs.Answer.{Stands}
use Rattle.aide_merge.specs.declared.merge.Merge.{Merge}

-- a line of each side, and another line that is as long as the longer of the two
abbrev pub three_lines : ℕ → ℕ → ℕ
three_lines old_line new_line = old_line + new_line + max old_line new_line

-- Each side's list is within its bound. The peak has not fallen.
-- The peak is at most the greater of what it was before and three lines.
pub record Fits (old_line new_line before : ℕ) (desk : DeskView) : Type 0 where
  pub old_list : length desk.old_line ≤ old_line
  pub new_list : length desk.new_line ≤ new_line
  pub peak : before ≤ desk.peak
  pub bound : desk.peak ≤ max before (three_lines old_line new_line)

-- the cursor represents a text in which no line is longer than `longest`
pub record StandsWithin {R : Type 0} (to_come : R
    → Option (List ℕ)) (c : CursorView R) (desk : DeskView) (longest : ℕ) : Type 0 where
  pub text : List ℕ
  pub stands : Stands to_come c desk text
  pub within : longest_line c.limits text ≤ longest

-- the cursor takes no line longer than `longest`: the line limit forbids such a line, or the text has none
abbrev pub TakesWithin : {R : Type 0} → (R → Option (List ℕ)) → CursorView R → DeskView → ℕ → Type 0
TakesWithin to_come c desk longest = (c.limits.line ≤ longest) ⊎ StandsWithin to_come c desk longest

-- if the cursor keeps to some bounds, a desk that fits them before still fits them after
abbrev pub FitsAfter : {R : Type 0} → (R → Option (List ℕ)) → CursorView R → DeskView → DeskView
    → Type 0
FitsAfter to_come c old new = (old_line new_line before : ℕ)
    → TakesWithin to_come c old (by_side old_line new_line c.side)
    → Fits old_line new_line before old → Fits old_line new_line before new

-- if both cursors keep to some bounds, a desk that fits them before still fits them after
abbrev pub FitsAfterBoth : {R : Type 0} → (R → Option (List ℕ)) → Merge R → DeskView → DeskView
    → Type 0
FitsAfterBoth to_come m old new = (old_line new_line before : ℕ)
    → TakesWithin to_come m.old_cursor old old_line
    → TakesWithin to_come m.new_cursor old new_line
    → Fits old_line new_line before old → Fits old_line new_line before new

-- the side gives a text in which no line is longer than `longest`
pub record GivesWithin (bytes_of : Side
    → Option (List ℕ)) (limits : Limits) (side : Side) (longest : ℕ) : Type 0 where
  pub text : List ℕ
  pub gives : bytes_of side ≡ Some text
  pub within : longest_line limits text ≤ longest

-- no line taken from the side is longer than `longest`: the line limit forbids such a line, or the text has none
abbrev pub OpensWithin : (Side → Option (List ℕ)) → Limits → Side → ℕ → Type 0
OpensWithin bytes_of limits side longest = (limits.line ≤ longest)
    ⊎ GivesWithin bytes_of limits side longest
