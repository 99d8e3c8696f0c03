-- What a run over two databases with a trusted pair promises. It reads each of the four once.
use Rattle.std.specs.Io.KnownBytes.{Appends}
use Rattle.std.specs.Prelude.{◌≡◌, ℕ, true, [], List, Option, Some, Result, IfErr, IfOk, OnOk, ⊤}
use Rattle.aide_db.specs.Database.{IsSound}
use Rattle.aide_db.specs.declared.limits.Limits.{Limits}
use Rattle.aide_db.specs.declared.side.Side.{Side}
use Rattle.aide_line_run.specs.Stops.{KeepsUnopened}
use Rattle.aide_merge.specs.RightAnswer.{IsHindered}
use Rattle.aide_merge.specs.Openings.{OpensExactly}
use Rattle.aide_merge.specs.RunFaults.{HasWrittenIfAny}
use Rattle.aide_merge.specs.RightAnswer.{Report}
use Rattle.aide_merge.specs.Seen.{SinkSeen}
use Rattle.aide_merge.specs.declared.outcome.Outcome.{Outcome}
use Rattle.aide_text.specs.Failures.{CountsFlush, Rose}
use Rattle.aide_line_run.specs.Lines.{AreAllLines}
use Rattle.aide_line_run.specs.BeforeFault.{AreBeforeFaults, FourTexts}
use Rattle.aide_line_run.specs.RunEnds.{CutsFronts, CutsLines, EndsLines, IsFaultOfPair}
use Rattle.aide_line_run.specs.RunEnds.{LeavesPair, RunsLines}
use Rattle.aide_line_run.specs.Listed.{ListRead}
use Rattle.aide_line_run.specs.PairSeen.{Gives, PairSeen, Told}
use Rattle.aide_line_run.specs.Pairs.{CountsPairWrites, OfCompared, OfEach}
use Rattle.aide_line_run.specs.declared.pair_fault.PairFault.{PairFault}

-- the texts of a pair that are known are sound
abbrev pub AreSoundIn : Limits → PairSeen → Type 0
AreSoundIn limits p = (side : Side) (text : List ℕ) → p.before.bytes_of side ≡ Some text
    → IsSound limits text

-- if one of these sides is missing, nothing has been written
abbrev pub KeepsMissing : PairSeen → (before after : Option (List ℕ)) → Type 0
KeepsMissing p before after = (side : Side) → p.before.is_missing side ≡ true
    → Appends before after []

-- A run over the compared pair `p` with the trusted pair `q` and a list, with this result: `o` is seen of the sink
-- before it, `s` after it.
pub record IsLinesRun (limits : Limits) (list : ListRead) (p q : PairSeen)
    (o s : SinkSeen) (result : Result Outcome PairFault) : Type 0 where
  -- If it is known what is at each of the four sides, a text or nothing: the run ends with the right answer, and all of
  -- its lines have been written, unless an allocation, a side that is there, or the sink has failed.
  pub over : (old new trusted_old trusted_new : Option (List ℕ)) → Told p old new
      → Told q trusted_old trusted_new
      → (r : Result Report PairFault)
      → RunsLines limits list p.asked q.asked old new trusted_old trusted_new r
      → EndsLines r (OfEach
      (IsHindered old new (Rose p.before.failures p.after.failures) (Rose o.failures s.failures))
      (IsHindered trusted_old trusted_new (Rose q.before.failures q.after.failures) ⊥))
      result o.delivered s.delivered
  -- what has been written at a fault
  pub cut : (old new trusted_old trusted_new : List ℕ) → Gives p old new
      → Gives q trusted_old trusted_new
      → IfErr result (CutsLines limits list p.asked q.asked old new trusted_old trusted_new
      o.delivered s.delivered)
  -- what has been written at a fault, by what of each text comes before its first fault
  pub early : (texts fronts : FourTexts) → Gives p texts.old texts.new
      → Gives q texts.trusted_old texts.trusted_new → AreBeforeFaults limits texts fronts
      → IfErr result (CutsFronts limits list p.asked q.asked texts fronts o.delivered s.delivered)
  -- Before all four sides are open nothing is written.
  pub unopened : IfErr result (OfEach (KeepsUnopened o.delivered s.delivered)
      (KeepsUnopened o.delivered s.delivered))
  pub missing : KeepsMissing p o.delivered s.delivered
  pub trusted_missing : KeepsMissing q o.delivered s.delivered
  -- After `Ok` all four texts are sound, and before a fault of the trusted pair the compared ones.
  pub sound : OnOk result (AreSoundIn limits p)
  pub trusted_sound : OnOk result (AreSoundIn limits q)
  pub behind : IfErr result (OfEach (λ fault. ⊤) (λ fault. AreSoundIn limits p))
  -- For any sources, also those that show no bytes: what has been written is of the very outcome that is returned.
  pub consistent : IfOk result (λ outcome.
      AreAllLines list p.asked q.asked outcome o.delivered s.delivered)
  -- The lines are flushed once, after their last byte, and after a fault not at all.
  pub flushed : OnOk result (s.is_flushed ≡ true)
  pub flushes : CountsFlush o.flushes s.flushes result
  -- A failed write is returned with the number of bytes that were written, and none is tried again.
  pub written : IfErr result (OfCompared (HasWrittenIfAny o.delivered s.delivered))
  pub sink_fails : CountsPairWrites o.failures s.failures result
  -- why a fault comes
  pub fault : IfErr result (OfEach (IsFaultOfPair limits p (Rose o.failures s.failures))
      (IsFaultOfPair limits q ⊥))
  -- what each pair is left with
  pub leaves : LeavesPair limits p
  pub trusted_leaves : LeavesPair limits q
  -- Each side is opened once.
  pub opens : OnOk result (OpensExactly p.before.openings p.after.openings 1)
  pub trusted_opens : OnOk result (OpensExactly q.before.openings q.after.openings 1)
