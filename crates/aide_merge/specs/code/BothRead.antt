-- What is known of both databases once they are read.
use Rattle.std.specs.Prelude.{ℕ, ◌≡◌, false, Some, List}
use Rattle.aide_db.specs.Database.{IsSound}
use Rattle.aide_db.specs.DeskView.{DeskView}
use Rattle.aide_db.specs.Giving.{columns_of_text}
use Rattle.aide_entry.specs.Skipped.{skipped_in}
use Rattle.aide_db.specs.declared.limits.Limits.{Limits}
use Rattle.aide_db.specs.declared.reel.Reel.{Ghosts as Reels}
use Rattle.aide_db.specs.declared.side.Side.{Side}
use Rattle.aide_db.specs.declared.side.Side.TheVariants.{Old, New}
use Rattle.sha2.specs.Sha256.{sha256}
use Rattle.aide_merge.specs.code.Digests.{AreDigests, digest_on}
use Rattle.aide_merge.specs.Seen.{Seen}
use Rattle.aide_merge.specs.declared.readings.Readings.{Readings}
use Rattle.aide_merge.specs.code.Merging.{StandsAt}
use Rattle.aide_merge.specs.declared.merge.Merge.{Merge}

-- What was read of both sides.
pub record AreRead (limits : Limits) (a : Seen) (readings : Readings) : Type 0 where
  -- both texts are sound
  pub sound : (side : Side) (text : List ℕ) → a.bytes_of side ≡ Some text → IsSound limits text
  -- no side is missing
  pub there : (side : Side) → a.is_missing side ≡ false
  -- the skipped columns are those of the two texts
  pub skipped_old : (text : List ℕ) → a.bytes_of Old ≡ Some text
      → readings.skipped_old ≡ skipped_in (columns_of_text text)
  pub skipped_new : (text : List ℕ) → a.bytes_of New ≡ Some text
      → readings.skipped_new ≡ skipped_in (columns_of_text text)
  -- the digests are those of the two texts
  pub digests : AreDigests a.bytes_of readings.digests

-- What is known of both databases, of which a merge has come to its end.
pub record AreReadAt {R : Type 0} (r : Reels R) (m : Merge R) (d : DeskView)
    (readings : Readings) : Type 0 where
  pub digests : (side : Side) (text : List ℕ) → StandsAt r.to_come m d side text
      → digest_on readings.digests side ≡ sha256 text
  pub skipped_old : (text : List ℕ) → StandsAt r.to_come m d Old text
      → readings.skipped_old ≡ skipped_in (columns_of_text text)
  pub skipped_new : (text : List ℕ) → StandsAt r.to_come m d New text
      → readings.skipped_new ≡ skipped_in (columns_of_text text)
