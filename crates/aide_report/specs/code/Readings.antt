-- What the first readings find: each database is opened and read whole.
use Rattle.std.specs.Prelude.{ℕ, ◌≡◌, false, Some, List}
use Rattle.aide_conf.specs.declared.options.Options.{Options}
use Rattle.aide_db.specs.Database.{IsSound}
use Rattle.aide_db.specs.Giving.{columns_of_text}
use Rattle.aide_entry.specs.Skipped.{skipped_in}
use Rattle.aide_db.specs.declared.limits.Limits.{Limits}
use Rattle.aide_db.specs.declared.side.Side.{Side}
use Rattle.aide_db.specs.declared.side.Side.TheVariants.{Old, New}
use Rattle.sha2.specs.Sha256.{sha256}
use Rattle.aide_merge.specs.code.Digests.{AreDigests}
use Rattle.aide_report.specs.code.GivenDigests.{next_given}
use Rattle.aide_report.specs.code.Finding.{IsFinding}
use Rattle.aide_merge.specs.Openings.{OpensFirst}
use Rattle.aide_merge.specs.code.ReadFaults.{IsReadFault}
use Rattle.aide_merge.specs.Seen.{Seen}
use Rattle.aide_report.specs.declared.pass.WholeReading.{WholeReading}
use Rattle.aide_report.specs.declared.finding.Finding.{Finding}
use Rattle.aide_merge.specs.declared.run_fault.RunFault.{RunFault}

-- ---- one side

-- What was read of a whole database.
pub record IsWholeReading (limits : Limits) (a : Seen) (side : Side)
    (reading : WholeReading) : Type 0 where
  -- the side is not missing
  pub refuses : a.is_missing side ≡ false
  -- its text is sound, and the skipped columns and the digest are those of the text
  pub sound : (text : List ℕ) → a.bytes_of side ≡ Some text
      → IsSound limits text × (reading.skipped ≡ skipped_in (columns_of_text text))
      × (reading.digest ≡ sha256 text)
  -- the digest is that of the bytes which this opening gave
  pub gave : (text : List ℕ) → next_given a.bytes_at a.openings side ≡ Some text
      → reading.digest ≡ sha256 text

-- ---- both sides, and the counting pass

-- What was found of both sides, before a report is begun.
pub record IsFound (options : Options) (limits : Limits) (a : Seen)
    (finding : Finding) : Type 0 where
  -- both texts are sound
  pub sound : (side : Side) (text : List ℕ) → a.bytes_of side ≡ Some text → IsSound limits text
  -- no side is missing
  pub there : (side : Side) → a.is_missing side ≡ false
  -- the counts and the skipped columns are those of the two texts
  pub of_texts : (old new : List ℕ) → a.bytes_of Old ≡ Some old → a.bytes_of New ≡ Some new
      → IsFinding options finding old new
  -- the digests are those of the two texts
  pub digests : AreDigests a.bytes_of finding.digests

-- What a fault before the report means: one of the first readings, or one of the counting pass after them.
pub record IsFindingFault (limits : Limits) (a b : Seen) (room : ℕ)
    (fault : RunFault) : Type 0 where
  -- it is a fault of a run, and no write has failed
  pub read : IsReadFault limits a b room ⊥ fault
  -- a fault of the old text comes before the new side is opened
  pub opens_first : OpensFirst a.openings b.openings fault
