-- How a session with a trusted pair ends.
use Rattle.std.specs.Prelude.{◌≡◌, ◌≤◌, ℕ, Bool, true, Ok, Err, Result, Option, Some, None}
use Rattle.std.specs.Prelude.{List, [], IfErr, IfOk, OnOk, ◌⊎◌, max, ⊤}
use Rattle.std.specs.Io.KnownBytes.{Appends}
use Rattle.aide_conf.specs.Settings.{Configured}
use Rattle.aide_conf.specs.declared.options.Options.{Options}
use Rattle.aide_db.specs.Side.{by_side}
use Rattle.aide_db.specs.declared.side.Side.{Side}
use Rattle.aide_db.specs.declared.side.Side.TheVariants.{Old, New}
use Rattle.aide_patterns.specs.List.{HasFirstFault}
use Rattle.aide_patterns.specs.declared.fault.ListFault.{ListFault}
use Rattle.aide_text.specs.Failures.{Rose}
use Rattle.aide_line_run.specs.Stops.{KeepsUnopened}
use Rattle.aide_merge.specs.RightAnswer.{IsHindered}
use Rattle.aide_merge.specs.Openings.{OpensAtMost, OpensExactly}
use Rattle.aide_merge.specs.Outcomes.{status_of}
use Rattle.aide_merge.specs.RightAnswer.{Report}
use Rattle.aide_merge.specs.declared.outcome.Outcome.{Outcome}
use Rattle.aide_site.specs.Answer.{Named, asked_by, limits}
use Rattle.aide_line_session.specs.LineAnswer.{LineAnswer, lines_written, pair_fault_line}
use Rattle.aide_line_session.specs.LineAnswer.{pair_fault_status, trusted_of}
use Rattle.aide_site.specs.Closing.{AreBothSound, Course, HasText, MeansOfPair}
use Rattle.aide_site.specs.Ends.{EndsOf, Puts, Sinks, WholeOf, of_sites, of_whose}
use Rattle.aide_site.specs.Files.{Files}
use Rattle.aide_site.specs.JobSettings.{HasRead, NoSettingsCause, comparison_of, no_settings_line}
use Rattle.aide_site.specs.JobSettings.{no_settings_status}
use Rattle.aide_site.specs.declared.job_config.NoSettings.{NoSettings}
use Rattle.aide_site.specs.declared.job_config.NoSettings.TheVariants.{Memory}
use Rattle.aide_line_session.specs.GivenList.{IsList, IsListOf, list_line}
use Rattle.aide_site.specs.Held.{HoldsWithin, most_held}
use Rattle.aide_site.specs.Lines.{outcome_lines}
use Rattle.aide_text.specs.Failures.{CountsFlush}
use Rattle.aide_line_run.specs.BeforeFault.{AreBeforeFaults, FourTexts}
use Rattle.aide_line_run.specs.Lines.{AreAllLines}
use Rattle.aide_line_run.specs.RunEnds.{CutsFronts, CutsLines, EndsLines, RunsLines}
use Rattle.aide_line_run.specs.Listed.{ListRead}
use Rattle.aide_line_run.specs.Pairs.{OfEach}
use Rattle.aide_line_run.specs.declared.pair_fault.PairFault.{PairFault}
use Rattle.aide_words.specs.LineJob.{LineJobText}

-- All that contracts say about a session with a trusted pair, but how often its first site had
-- failed before.
pub record LineView : Type 0 where
  -- what is known of the files of either site
  pub files : Files
  pub trusted_files : Files
  -- whether either site was reliable before
  pub is_reliable : Bool
  pub trusted_reliable : Bool
  -- how often either site has failed
  pub site_after : ℕ
  pub trusted_before : ℕ
  pub trusted_after : ℕ
  -- how often the output has failed
  pub out_before : ℕ
  pub out_after : ℕ
  -- what was written
  pub sinks : Sinks
  -- what was opened and flushed; the output of both courses is the same
  pub course : Course
  pub trusted_course : Course
  -- the most that either desk has ever held
  pub peak_before : ℕ
  pub peak_after : ℕ
  pub trusted_peak_before : ℕ
  pub trusted_peak_after : ℕ

-- ---- how a session keeps to its answer

-- the session ends with the complete answer
abbrev pub WholeLines : LineAnswer → ℕ → Sinks → Type 0
WholeLines a status sinks = WholeOf lines_written a status sinks

-- A session ends with the answer, out of memory, or with a failure. `site`, `trusted_site` and
-- `out` mean that the first site, that of the trusted pair or the output has counted a failure.
abbrev pub EndsWithin : LineAnswer → (named trusted : Named) → ℕ → Sinks
    → (site trusted_site out : Type 0)
    → Type 0
EndsWithin a named trusted status sinks site trusted_site out =
    EndsOf lines_written a (of_whose named trusted) status sinks (of_sites site trusted_site) out

-- ---- how a session ends over any sites

-- why a session stops before it opens a database
pub data EarlyStop : Type 0 where
  list_refused : ListFault → EarlyStop
  no_settings : NoSettings → EarlyStop

-- the status of such a stop
abbrev pub stop_status : EarlyStop → ℕ
stop_status (list_refused fault) = 17
stop_status (no_settings why) = no_settings_status why

-- the line of such a stop on standard error
abbrev pub stop_line : LineJobText → EarlyStop → List ℕ
stop_line job (list_refused fault) = list_line fault
stop_line job (no_settings why) = no_settings_line job.config why

-- The cause of an early stop. Memory may run out at any time. A fault of the list comes before those of the
-- configuration.
abbrev pub StopCause : Files → (is_reliable : Bool) → LineJobText → (site : Type 0) → EarlyStop
    → Type 0
StopCause files is_reliable job site (list_refused fault) = HasFirstFault job.without fault
StopCause files is_reliable job site (no_settings why) = (why ≡ Memory)
    ⊎ (IsList job.without × NoSettingsCause files is_reliable (comparison_of job) site why)

-- The session stops with this status and this line. It has opened no database and written nothing,
-- and neither desk has held more than before.
pub record StopsWith (line : List ℕ) (code status : ℕ) (v : LineView) : Type 0 where
  pub status_is : status ≡ code
  pub put : Puts line v.sinks
  pub output : Appends v.sinks.out_old v.sinks.out_new []
  pub unopened : v.course.opened_after ≡ v.course.opened_before
  pub trusted_unopened : v.trusted_course.opened_after ≡ v.trusted_course.opened_before
  pub unflushed : v.course.flushes_after ≡ v.course.flushes_before
  pub still : v.peak_after ≡ v.peak_before
  pub trusted_still : v.trusted_peak_after ≡ v.trusted_peak_before

-- if one of the files of a pair is not there, nothing has been written
abbrev pub KeepsMissingFile : Files → Named → Sinks → Type 0
KeepsMissingFile files named sinks = (side : Side)
    → files (by_side named.old_path named.new_path side) ≡ Some None
    → Appends sinks.out_old sinks.out_new []

-- the status of a comparison
abbrev pub compared_status : Result Outcome PairFault → ℕ
compared_status (Ok outcome) = status_of outcome.added outcome.removed outcome.changed
compared_status (Err fault) = pair_fault_status fault

-- what a comparison puts on standard error
abbrev pub compared_line : (named trusted : Named) → Result Outcome PairFault → List ℕ
compared_line named trusted (Ok outcome) = outcome_lines outcome
compared_line named trusted (Err fault) =
    pair_fault_line named.old_path named.new_path trusted.old_path trusted.new_path fault

-- The session compares the databases at the paths of both pairs with this result, and with what was
-- read of a list. `site` means that the first site has counted a failure in the comparison.
pub record ComparesPairs (list : ListRead) (named trusted : Named) (options : Options)
    (result : Result Outcome PairFault) (site : Type 0) (v : LineView) : Type 0 where
  -- If it is known what is at each of the four paths, a text or nothing: the comparison ends with
  -- the right answer and sends its lines, unless an allocation, a file that is there, or the output
  -- has failed.
  pub over : (old new trusted_old trusted_new : Option (List ℕ))
      → v.files named.old_path ≡ Some old → v.files named.new_path ≡ Some new
      → v.trusted_files trusted.old_path ≡ Some trusted_old
      → v.trusted_files trusted.new_path ≡ Some trusted_new
      → (r : Result Report PairFault)
      → RunsLines limits list (asked_by options named) (asked_by options trusted)
      old new trusted_old trusted_new r
      → EndsLines r (OfEach (IsHindered old new site (Rose v.out_before v.out_after))
      (IsHindered trusted_old trusted_new (Rose v.trusted_before v.trusted_after) ⊥))
      result v.sinks.out_old v.sinks.out_new
  -- What has been written at a fault: never a byte of the last line, unless all four texts are sound
  -- and a write has failed.
  pub cut : (old new trusted_old trusted_new : List ℕ) → HasText v.files named Old old
      → HasText v.files named New new → HasText v.trusted_files trusted Old trusted_old
      → HasText v.trusted_files trusted New trusted_new
      → IfErr result (CutsLines limits list (asked_by options named) (asked_by options trusted)
      old new trusted_old trusted_new v.sinks.out_old v.sinks.out_new)
  -- What has been written at a fault, by what comes before the first fault of each text.
  pub early : (texts fronts : FourTexts) → HasText v.files named Old texts.old
      → HasText v.files named New texts.new
      → HasText v.trusted_files trusted Old texts.trusted_old
      → HasText v.trusted_files trusted New texts.trusted_new
      → AreBeforeFaults limits texts fronts
      → IfErr result (CutsFronts limits list (asked_by options named) (asked_by options trusted)
      texts fronts v.sinks.out_old v.sinks.out_new)
  -- Before all four databases are open nothing is written.
  pub unopened : IfErr result (OfEach (KeepsUnopened v.sinks.out_old v.sinks.out_new)
      (KeepsUnopened v.sinks.out_old v.sinks.out_new))
  pub missing : KeepsMissingFile v.files named v.sinks
  pub trusted_missing : KeepsMissingFile v.trusted_files trusted v.sinks
  -- After a good comparison all four texts are sound, and before a fault of the trusted pair the
  -- compared ones.
  pub sound : OnOk result (AreBothSound v.files named)
  pub trusted_sound : OnOk result (AreBothSound v.trusted_files trusted)
  pub behind : IfErr result (OfEach (λ fault. ⊤) (λ fault. AreBothSound v.files named))
  -- For any sites, also those that show no files: what has been written is of the very outcome that is
  -- returned.
  pub consistent : IfOk result (λ outcome. AreAllLines list (asked_by options named)
      (asked_by options trusted) outcome v.sinks.out_old v.sinks.out_new)
  -- The lines are flushed once, after their last byte, and after a fault not at all.
  pub flushed : OnOk result (v.course.is_flushed ≡ true)
  pub flushes : CountsFlush v.course.flushes_before v.course.flushes_after result
  -- what a fault means, by the pair that it is of; no write fails because of the trusted pair
  pub fault : IfErr result (OfEach (MeansOfPair v.files named v.is_reliable v.course site
      (Rose v.out_before v.out_after)) (MeansOfPair v.trusted_files trusted v.trusted_reliable
      v.trusted_course (Rose v.trusted_before v.trusted_after) ⊥))
  -- Each side of both pairs is opened once, and after a fault not more often.
  pub opens : OnOk result (OpensExactly v.course.opened_before v.course.opened_after 1)
  pub trusted_opens : OnOk result (OpensExactly v.trusted_course.opened_before
      v.trusted_course.opened_after 1)
  pub opens_some : OpensAtMost v.course.opened_before v.course.opened_after 1
  pub trusted_opens_some : OpensAtMost v.trusted_course.opened_before
      v.trusted_course.opened_after 1
  -- what each desk has held
  pub peak : v.peak_before ≤ v.peak_after
  pub below : v.peak_after ≤ max v.peak_before most_held
  pub bound : HoldsWithin v.files named v.peak_before v.peak_after
  pub trusted_peak : v.trusted_peak_before ≤ v.trusted_peak_after
  pub trusted_below : v.trusted_peak_after ≤ max v.trusted_peak_before most_held
  pub trusted_bound : HoldsWithin v.trusted_files trusted v.trusted_peak_before
      v.trusted_peak_after

-- The comparison, its status and its line.
pub record ClosesCompared (list : ListRead) (named trusted : Named) (options : Options)
    (status : ℕ) (site : Type 0) (v : LineView) : Type 0 where
  pub result : Result Outcome PairFault
  pub status_is : status ≡ compared_status result
  pub put : Puts (compared_line named trusted result) v.sinks
  pub compares : ComparesPairs list named trusted options result site v

-- The session of a job stops before it opens a database. The first site had failed `before` times
-- before it.
pub record StopsEarly (job : LineJobText) (status before : ℕ) (v : LineView) : Type 0 where
  pub stop : EarlyStop
  pub cause : StopCause v.files v.is_reliable job (Rose before v.site_after) stop
  pub stops : StopsWith (stop_line job stop) (stop_status stop) status v

-- The session of a job compares the databases that its configuration and its arguments name, with
-- what was read of its list. The first site had failed `before` times before it, and `count` times
-- when the configuration had been read.
pub record ClosesLines (job : LineJobText) (status before : ℕ) (v : LineView) : Type 0 where
  pub list : ListRead
  pub listed : IsListOf job.without list
  pub settings : Configured
  pub read : HasRead v.files (comparison_of job) (Ok settings)
  pub named : Named
  pub config_is : named.config ≡ job.config
  pub old_is : settings.old_path ≡ Some named.old_path
  pub new_is : settings.new_path ≡ Some named.new_path
  pub count : ℕ
  pub later : before ≤ count
  pub closes : ClosesCompared list named (trusted_of job) settings.options status
      (Rose count v.site_after) v

-- over any sites: the session of a job stops early, or compares the databases
abbrev pub EndsLinesBy : LineJobText → (status before : ℕ) → LineView → Type 0
EndsLinesBy job status before v = StopsEarly job status before v ⊎ ClosesLines job status before v
