-- What a run over two databases promises that writes the report.
use Rattle.std.specs.Io.KnownBytes.{Appends}
use Rattle.std.specs.Prelude.{◌≡◌, ◌≤◌, ◌*◌, ℕ, true, [], List, Option, Some, Result, Err, IfErr}
use Rattle.std.specs.Prelude.{IfOk, OnOk, max}
use Rattle.aide_db.specs.Database.{IsSound}
use Rattle.aide_db.specs.DeskView.{DeskView}
use Rattle.aide_db.specs.Longest.{longest_line}
use Rattle.aide_db.specs.declared.fault.DbFault.{DbFault}
use Rattle.aide_db.specs.declared.limits.Limits.{Limits}
use Rattle.aide_db.specs.declared.side.Side.{Side}
use Rattle.aide_db.specs.declared.side.Side.TheVariants.{Old, New}
use Rattle.aide_report_specs.specs.Agreement.{IsOfOutcome, OpensByOutcome}
use Rattle.aide_merge.specs.Asked.{Asked}
use Rattle.aide_merge.specs.Bound.{three_lines}
use Rattle.aide_report_specs.specs.Given.{GiveOneDigest}
use Rattle.aide_report_specs.specs.Missing.{EndsOver, RunsOver}
use Rattle.aide_merge.specs.RightAnswer.{IsHindered, IsOfReliable, TellsSide}
use Rattle.aide_merge.specs.Openings.{IsNotGiven, IsRefusedThere, OpensAtMost, OpensExactly}
use Rattle.aide_merge.specs.Openings.{OpensFirst}
use Rattle.aide_merge.specs.Room.{IsNotOfMemory}
use Rattle.aide_merge.specs.RunFaults.{CountsWrites, HasSentNothing, HasWrittenIfAny, IsRight}
use Rattle.aide_merge.specs.RightAnswer.{HasCause, Report}
use Rattle.aide_report_specs.specs.Runs.{Runs, openings_over}
use Rattle.aide_merge.specs.Seen.{Seen, SinkSeen}
use Rattle.aide_merge.specs.declared.outcome.Outcome.{Outcome}
use Rattle.aide_merge.specs.declared.run_fault.RunFault.{RunFault}
use Rattle.aide_text.specs.Failures.{CountsFlush, Rose}

-- A run with this result: `a` is seen of the sources before it and `b` after it, `d` and `e` of the desk, `o` and `p`
-- of the sink.
pub record IsRun (limits : Limits) (asked : Asked) (a b : Seen) (d e : DeskView)
    (o p : SinkSeen) (result : Result Outcome RunFault) : Type 0 where
  -- If it is known what is at each side, a text or nothing: the run ends with the right answer, and sends its report,
  -- unless an allocation, a side that is there, or the sink has failed. Then its beginning has been written.
  pub over : (old new : Option (List ℕ)) → TellsSide (a.bytes_of Old) (a.is_missing Old) old
      → TellsSide (a.bytes_of New) (a.is_missing New) new
      → (r : Result Report RunFault) → RunsOver limits asked old new r
      → EndsOver r (IsHindered old new (Rose a.failures b.failures) (Rose o.failures p.failures))
      result o.delivered p.delivered
  -- Over reliable sources no side that is there fails.
  pub reliable : a.is_reliable ≡ true → IfErr result (IsOfReliable a.bytes_of)
  -- After `Ok` both texts are sound.
  pub sound : OnOk result ((side : Side) (text : List ℕ) → a.bytes_of side ≡ Some text
      → IsSound limits text)
  -- If a text is not sound, nothing is written.
  pub nothing : (side : Side) (text : List ℕ) → a.bytes_of side ≡ Some text
      → (IsSound limits text → ⊥) → Appends o.delivered p.delivered []
  -- A failed write is returned with the number of bytes that were written.
  pub written : IfErr result (HasWrittenIfAny o.delivered p.delivered)
  -- For any sources, also those that show no bytes: what has been written is of the very outcome that is returned.
  pub consistent : IfOk result (λ outcome.
      IsOfOutcome asked.options outcome o.delivered p.delivered)
  -- It is flushed once, after its last byte, and after a fault not at all.
  pub flushed : OnOk result (p.is_flushed ≡ true)
  pub flushes : CountsFlush o.flushes p.flushes result
  -- Before both databases have been read and counted, nothing is written.
  pub unsent : IfErr result (HasSentNothing 2 (a.openings Old) (b.openings Old)
      o.delivered p.delivered)
  -- After `Ok` all openings of a side gave bytes of one SHA-256: over openings that differ in it no run ends with `Ok`.
  pub agreed : OnOk result (GiveOneDigest a.bytes_at a.openings b.openings)
  -- The run does not change which bytes an opening gives.
  pub at_same : b.bytes_at ≡ a.bytes_at
  -- why a fault comes
  pub cause : IfErr result (λ fault. HasCause fault (Rose a.failures b.failures)
      (Rose o.failures p.failures)
      (λ first. (old new : List ℕ) → a.bytes_of Old ≡ Some old → a.bytes_of New ≡ Some new
      → (r : Result Report DbFault) → Runs limits asked old new r → r ≡ Err first)
      (λ side. (text : List ℕ) → a.bytes_of side ≡ Some text → ⊥))
  -- A side whose openings agree is never called changed, and a fault of its text is its first one.
  pub right : IfErr result (IsRight limits a.bytes_of)
  -- A side that could not be opened is the one that was opened last, and that opening is not known to have succeeded.
  pub refused : IfErr result (IsRefusedThere a.openings b.openings)
  pub not_given : IfErr result (IsNotGiven b.was_given)
  -- The count of failures of the sources does not fall.
  pub sources_never_fall : a.failures ≤ b.failures
  -- A failed write or flush is returned, and none is tried again.
  pub sink_fails : CountsWrites o.failures p.failures result
  -- Each side is opened as often as the report needs it: to be read to its end, to count, for each section of entries.
  pub opens : OnOk result ((old new : List ℕ) → a.bytes_of Old ≡ Some old
      → a.bytes_of New ≡ Some new
      → OpensExactly a.openings b.openings (openings_over asked old new))
  pub opens_told : IfOk result (λ outcome.
      OpensByOutcome asked.options outcome a.openings b.openings)
  pub opens_within : (old new : List ℕ) → a.bytes_of Old ≡ Some old → a.bytes_of New ≡ Some new
      → IsSound limits old → IsSound limits new
      → OpensAtMost a.openings b.openings (openings_over asked old new)
  pub opens_some : OpensAtMost a.openings b.openings 6
  -- A fault of the old text comes before the new side is opened.
  pub opens_first : IfErr result (OpensFirst a.openings b.openings)
  -- The greatest number of bytes ever held on the desk does not fall, and rises at most to three lines as long as the
  -- limit. If each opening gives the same bytes, it rises at most to the longest line of each text and one more line
  -- as long as the longer of these.
  pub peak : d.peak ≤ e.peak
  pub below : e.peak ≤ max d.peak (3 * limits.line)
  pub bound : (old new : List ℕ) → a.bytes_of Old ≡ Some old → a.bytes_of New ≡ Some new
      → e.peak ≤ max d.peak (three_lines (longest_line limits old) (longest_line limits new))
  -- The room that was reserved on the desk stays. If a line fits into it, the run never lacks memory.
  pub room : e.room ≡ d.room
  pub memory : limits.line ≤ d.room → IfErr result IsNotOfMemory
  -- No other file was opened.
  pub lookups : b.lookups ≡ a.lookups
