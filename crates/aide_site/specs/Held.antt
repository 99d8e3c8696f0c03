-- How many bytes of the databases a session holds at once.
use Rattle.std.specs.Prelude.{ℕ, ◌≤◌, ◌*◌, max, List}
use Rattle.aide_db.specs.Longest.{longest_line}
use Rattle.aide_db.specs.declared.side.Side.TheVariants.{Old, New}
use Rattle.aide_merge.specs.Bound.{three_lines}
use Rattle.aide_site.specs.Answer.{Named, limits}
use Rattle.aide_site.specs.Closing.{HasText}
use Rattle.aide_site.specs.Files.{Files}

-- three lines as long as the limit
abbrev pub most_held : ℕ
most_held = 3 * limits.line

-- The peak is no higher than before, or no higher than three lines: the longest line of each text,
-- and another line that is no longer than the longer of these.
abbrev pub IsPeakOf : (old new : List ℕ) → (before after : ℕ) → Type 0
IsPeakOf old new before after =
    after ≤ max before (three_lines (longest_line limits old) (longest_line limits new))

-- the same for the databases at the paths that are named, if the texts of both are known
abbrev pub HoldsWithin : Files → Named → (before after : ℕ) → Type 0
HoldsWithin files named before after =
    (old new : List ℕ) → HasText files named Old old → HasText files named New new
    → IsPeakOf old new before after
