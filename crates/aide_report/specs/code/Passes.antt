-- What each pass over both databases keeps, and what its faults mean.
use Rattle.std.specs.Prelude.{ℕ, ◌≡◌, ◌≤◌, true, false, Option, Some, List, Result, OnOk, IfErr}
use Rattle.aide_db.specs.DeskView.{DeskView}
use Rattle.aide_db.specs.declared.limits.Limits.{Limits}
use Rattle.aide_db.specs.declared.side.Side.{Side}
use Rattle.aide_db.specs.declared.side.Side.TheVariants.{Old, New}
use Rattle.aide_text.specs.Failures.{CountsFlush, Rose}
pub use Rattle.aide_text.specs.PenSheet.{on_sheet}
use Rattle.aide_text.specs.Sheet.{Sheet, WritesSome}
use Rattle.aide_text.specs.declared.pen.Pen.{Pen}
use Rattle.aide_text.specs.declared.sink.Sink.{Ghosts as Sinks}
use Rattle.aide_merge.specs.RightAnswer.{IsOfReliable}
use Rattle.aide_merge.specs.Openings.{ComesOpened, OpensExactly, OpensAtMost, IsRefusedThere}
use Rattle.aide_merge.specs.Openings.{IsNotGiven}
use Rattle.aide_report.specs.code.PassFaults.{Writes}
use Rattle.aide_merge.specs.Room.{IsNotOfMemory}
use Rattle.aide_merge.specs.RunFaults.{CountsWrites, HasPenWritten, HasWrittenIfAny, IsCaused}
use Rattle.aide_merge.specs.RunFaults.{IsLater}
use Rattle.aide_merge.specs.Seen.{Seen, KeepsSources}
use Rattle.aide_merge.specs.declared.run_fault.RunFault.{RunFault}
use Rattle.aide_merge.specs.code.Desks.{KeepsDesk}

-- What a fault of a pass means. A pass comes after both databases were read to their ends.
pub record IsPassFault (limits : Limits) (a b : Seen) (room : ℕ) (sink : Type 0)
    (fault : RunFault) : Type 0 where
  -- the old side was opened first, unless a write failed
  pub begun : ComesOpened (a.openings Old) (b.openings Old) fault
  -- a side that could not be opened is the one that was opened last
  pub refused : IsRefusedThere a.openings b.openings fault
  -- that opening is not known to have succeeded
  pub not_given : IsNotGiven b.was_given fault
  -- a side that is called changed is not sound, or its bytes are not known
  pub later : IsLater limits a.bytes_of fault
  -- a device of the sources has failed, or the sink has
  pub caused : IsCaused (Rose a.failures b.failures) sink fault
  -- reliable sources fail only at a side that has no bytes
  pub reliable : a.is_reliable ≡ true → IsOfReliable a.bytes_of fault
  -- no allocation fails if the longest allowed line fits into the reserved room
  pub memory : limits.line ≤ room → IsNotOfMemory fault

-- A number of passes in a row, each of which opens each side once. After a fault there were at most as many. `sink`
-- says what a failed write means.
pub record Passes {T : Type 0} (limits : Limits) (count : ℕ) (a b : Seen) (d e : DeskView)
    (sink : Type 0) (result : Result T RunFault) : Type 0 where
  -- the sources are as they were, but for openings and failures
  pub sources : KeepsSources a b
  -- the desk still fits the lines of both texts
  pub desk : KeepsDesk limits a.bytes_of d e
  -- after `Ok` each side was opened once a pass
  pub opens : OnOk result (OpensExactly a.openings b.openings count)
  -- no side was opened more often, also after a fault
  pub opens_some : OpensAtMost a.openings b.openings count
  -- what a fault means
  pub fault : IfErr result (IsPassFault limits a b d.room sink)

-- ---- the pen and the sink

-- What a pass leaves of its pen.
pub record KeepsPen {T : Type 0} (a b : Sheet) (pen : Pen)
    (result : Result T RunFault) : Type 0 where
  -- some bytes were written after those that were there, whatever the sources give
  pub some : WritesSome a b
  -- after `Ok` no write has failed
  pub writes_on : OnOk result (pen.failed ≡ false)
  -- a fault of a write names the number of bytes that were written; at any other fault no write has failed
  pub written : IfErr result (HasPenWritten pen)

-- If both sides give their texts, all of what `text` says about them is written, and its beginning before a fault.
abbrev pub WritesOver : {T E : Type 0} → (Side → Option (List ℕ)) → (List ℕ → List ℕ → List ℕ)
    → Result T E
    → Sheet → Sheet → Type 0
WritesOver bytes_of text result a b = (old new : List ℕ) → bytes_of Old ≡ Some old
    → bytes_of New ≡ Some new
    → Writes result (text old new) a b

-- What a complete report leaves of the sink.
pub record FlushesOnce {W T : Type 0} (w : Sinks W) (a b : W)
    (result : Result T RunFault) : Type 0 where
  -- after `Ok` the sink was flushed after its last byte
  pub flushed : OnOk result (w.is_flushed b ≡ true)
  -- it was flushed once, and after a fault not at all
  pub flushes : CountsFlush (w.flushes a) (w.flushes b) result
  -- a fault of a write names the number of bytes that were written
  pub written : IfErr result (HasWrittenIfAny (w.delivered a) (w.delivered b))
  -- the count of failures does not fall
  pub never_falls : w.failures a ≤ w.failures b
  -- a failed write or flush is reported, and none is tried again
  pub fails : CountsWrites (w.failures a) (w.failures b) result
