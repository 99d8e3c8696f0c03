-- From the pass over two texts to the lines over their maps.
use Rattle.std.proofs.Common.{◌≡◌, ℕ, List}
use Rattle.std.specs.Prelude.{Some}
use Rattle.sha2.specs.Sha256.{sha256}
use Rattle.aide_db.specs.Giving.{columns_of_text}
use Rattle.aide_db.specs.declared.limits.Limits.{Limits}
use Rattle.aide_entry.specs.Skipped.{skipped_in}
use Rattle.aide_db.specs.declared.side.Side.TheVariants.{Old, New}
use Rattle.aide_merge.specs.code.BothRead.{AreRead}
use Rattle.aide_merge.specs.Seen.{Seen}
use Rattle.aide_merge.specs.declared.readings.Readings.{Readings}

-- ---- what was read, and what was counted

-- what was read is of the two texts
pub record AreOfTexts (readings : Readings) (old new : List ℕ) : Type 0 where
  pub digest_old : readings.digests.of_old ≡ sha256 old
  pub digest_new : readings.digests.of_new ≡ sha256 new
  pub skipped_old : readings.skipped_old ≡ skipped_in (columns_of_text old)
  pub skipped_new : readings.skipped_new ≡ skipped_in (columns_of_text new)

pub texts_read : {limits : Limits} {a : Seen} {readings : Readings} (old new : List ℕ) → AreRead limits a readings
    → a.bytes_of Old ≡ Some old → a.bytes_of New ≡ Some new → AreOfTexts readings old new
texts_read old new read told_old told_new = record {
  digest_old = read.digests Old old told_old;
  digest_new = read.digests New new told_new;
  skipped_old = read.skipped_old old told_old;
  skipped_new = read.skipped_new new told_new;
}
