-- How a session ends over any site, even one that does not show its files: its result, and the
-- cause of this result.
use Rattle.std.specs.Prelude.{◌≡◌, ◌≤◌, ℕ, Bool, true, false, List, [], Ok, Result, Option, Some}
use Rattle.std.specs.Prelude.{None, Err, IfErr, IfOk, OnOk, ⊤, ◌⊎◌}
use Rattle.std.specs.Io.KnownBytes.{Appends}
use Rattle.aide_conf.specs.Settings.{Configured}
use Rattle.aide_conf.specs.declared.fault.ConfFault.{ConfFault}
use Rattle.aide_conf.specs.declared.options.Options.{Options}
use Rattle.aide_db.specs.Database.{IsSound}
use Rattle.aide_db.specs.Side.{by_side}
use Rattle.aide_entry.specs.declared.fault_kind.DbFaultKind.TheVariants.{Read}
use Rattle.aide_db.specs.declared.side.Side.{Side}
use Rattle.aide_db.specs.declared.side.Side.TheVariants.{Old, New}
use Rattle.aide_db.specs.declared.sources.Sources.{Ghosts as AnySources}
use Rattle.aide_report_specs.specs.Agreement.{IsOfOutcome, OpensByOutcome}
use Rattle.aide_report_specs.specs.Given.{GiveOneDigest}
use Rattle.aide_report_specs.specs.Missing.{EndsOver, RunsOver}
use Rattle.aide_merge.specs.RightAnswer.{IsHindered, Report}
use Rattle.aide_merge.specs.FaultStatus.{fault_status}
use Rattle.aide_merge.specs.Openings.{IsNotGiven, IsRefusedThere, OpensAtMost, OpensExactly}
use Rattle.aide_merge.specs.Openings.{OpensFirst}
use Rattle.aide_merge.specs.RunFaults.{HasSentNothing}
use Rattle.aide_report_specs.specs.Runs.{openings_over}
use Rattle.aide_merge.specs.Standing.{IsFaultOf}
use Rattle.aide_merge.specs.Room.{IsNotMemory}
use Rattle.aide_text.specs.Failures.{CountsFlush, Rose, one_more}
use Rattle.aide_merge.specs.Outcomes.{status_of}
use Rattle.aide_text.specs.Sent.{SendsPart}
use Rattle.aide_merge.specs.declared.outcome.Outcome.{Outcome}
use Rattle.aide_merge.specs.declared.run_fault.RunFault.{RunFault}
use Rattle.aide_merge.specs.declared.run_fault.RunFault.TheVariants.{Open, Database, Changed}
use Rattle.aide_merge.specs.declared.run_fault.RunFault.TheVariants.{Write}
use Rattle.aide_site.specs.Answer.{Named, asked_by, limits}
use Rattle.aide_site.specs.Ends.{Sinks, Puts}
use Rattle.aide_site.specs.Files.{Files}
use Rattle.aide_site.specs.JobSettings.{HasRead, NoSettingsCause, no_settings_line}
use Rattle.aide_site.specs.JobSettings.{no_settings_status}
use Rattle.aide_site.specs.declared.job_config.NoSettings.{NoSettings}
use Rattle.aide_site.specs.declared.job_config.NoSettings.TheVariants.{Memory}
use Rattle.aide_text.specs.declared.sink.Sink.{Ghosts as AnySink}
use Rattle.aide_words.specs.Job.{JobText}
use Rattle.aide_site.specs.Lines.{outcome_lines, run_fault_line, write_line}
use Rattle.aide_site.specs.Says.{Says, usage_by}
use Rattle.aide_site.specs.declared.whose.Whose.TheVariants.{Compared}

-- the result of a session
pub data Closing : Type 0 where
  no_job : Closing
  no_settings : NoSettings → Closing
  good_config : Configured → Closing
  untold_config : Configured → Closing
  compared : Options → Result Outcome RunFault → Closing

-- the status of a comparison
abbrev pub compared_status : Result Outcome RunFault → ℕ
compared_status (Ok outcome) = status_of outcome.added outcome.removed outcome.changed
compared_status (Err fault) = fault_status fault

-- what a comparison puts on standard error
abbrev pub compared_line : Named → Result Outcome RunFault → List ℕ
compared_line named (Ok outcome) = outcome_lines outcome
compared_line named (Err fault) = run_fault_line Compared named.old_path named.new_path fault

-- the exit status
abbrev pub closing_status : Closing → ℕ
closing_status no_job = 15
closing_status (no_settings why) = no_settings_status why
closing_status (good_config s) = 0
closing_status (untold_config s) = 18
closing_status (compared options result) = compared_status result

-- what is put on standard error
abbrev pub closing_line : Says → Named → Closing → List ℕ
closing_line says named no_job = usage_by says
closing_line says named (no_settings why) = no_settings_line named.config why
closing_line says named (good_config s) = []
closing_line says named (untold_config s) = write_line
closing_line says named (compared options result) = compared_line named result

-- How often each side was opened and the output was flushed, before and after. Also which bytes
-- each opening of a side gives, by its number, whether the last opening of a side is known to have
-- succeeded, and whether all of the output is flushed.
pub record Course : Type 0 where
  pub opened_before : Side → ℕ
  pub opened_after : Side → ℕ
  pub gives_after : Side → ℕ → Option (List ℕ)
  pub given_after : Side → Bool
  pub flushes_before : ℕ
  pub flushes_after : ℕ
  pub is_flushed : Bool

-- the course of a session, by what the devices show
abbrev pub course_between : {S R W : Type 0} → AnySources S R → AnySink W → S → S → W → W → Course
course_between s w site_old site_new out_old out_new = record {
  opened_before = s.openings site_old;
  opened_after = s.openings site_new;
  gives_after = s.bytes_at site_new;
  given_after = s.was_given site_new;
  flushes_before = w.flushes out_old;
  flushes_after = w.flushes out_new;
  is_flushed = w.is_flushed out_new;
}

-- What has been written of an accepted configuration that is only checked: nothing if nothing is said about
-- it, otherwise the text, which was flushed once, after its last byte.
abbrev pub IsTold : Says → Configured → (before after : Option (List ℕ))
    → (is_flushed : Bool) → (flushes_before flushes_after : ℕ) → Type 0
IsTold None s before after is_flushed flushes_before flushes_after =
    Appends before after [] × (flushes_after ≡ flushes_before)
IsTold (Some says) s before after is_flushed flushes_before flushes_after =
    Appends before after (says s) × (is_flushed ≡ true) × (flushes_after ≡ one_more flushes_before)

-- Only the beginning of the text has been written, or it was not flushed. If nothing is said, nothing
-- can be missing.
abbrev pub IsUntold : Says → Configured → (before after : Option (List ℕ))
    → (flushes_before flushes_after : ℕ) → Type 0
IsUntold None s before after flushes_before flushes_after = ⊥
IsUntold (Some says) s before after flushes_before flushes_after =
    SendsPart (says s) before after × (flushes_after ≡ flushes_before)

-- the arguments ask for a job, and its configuration is the one that is named
pub record Asks (wanted : Option JobText) (named : Named) : Type 0 where
  pub job : JobText
  pub job_is : wanted ≡ Some job
  pub config_is : named.config ≡ job.config

-- The arguments ask for a job with this configuration, which reads as `read`. If the file is known,
-- the text that was read is the file's.
pub record AsksAndReads (files : Files) (wanted : Option JobText) (config : List ℕ) (compare : Bool)
    (read : Result Configured ConfFault) : Type 0 where
  pub job : JobText
  pub job_is : wanted ≡ Some job
  pub config_is : config ≡ job.config
  pub compare_is : job.compare ≡ compare
  pub has : HasRead files job read

-- the arguments ask for a comparison of the databases at the paths that are named
pub record AsksToCompare (files : Files) (wanted : Option JobText) (named : Named) : Type 0 where
  pub settings : Configured
  pub asks : AsksAndReads files wanted named.config true (Ok settings)
  pub old_is : settings.old_path ≡ Some named.old_path
  pub new_is : settings.new_path ≡ Some named.new_path

-- the database of a side is known to be this text
abbrev pub HasText : Files → Named → Side → List ℕ → Type 0
HasText files named side text =
    files (by_side named.old_path named.new_path side) ≡ Some (Some text)

-- The cause of each fault of a run. If a side was not opened, or a read failed, the site has
-- counted a failure. If a write failed, the output has counted one. A fault of a database is never
-- out of memory. If the text of the database is known, the fault is the first one of this text,
-- unless a read failed. A database whose text is known is never reported as changed.
abbrev pub RunCause : Files → Named → RunFault → (site out : Type 0) → Type 0
RunCause files named (Open side) site out = site
RunCause files named (Database fault) site out = (fault.kind ≡ Read → site)
    × ((text : List ℕ) → HasText files named fault.side text → IsFaultOf limits text fault)
    × IsNotMemory fault
RunCause files named (Changed side) site out = (text : List ℕ) → HasText files named side text → ⊥
RunCause files named (Write written) site out = out

-- each database whose text is known is sound
abbrev pub AreBothSound : Files → Named → Type 0
AreBothSound files named =
    (side : Side) (text : List ℕ) → HasText files named side text → IsSound limits text

-- what the fault of a run over a reliable site means: only a file that is not there cannot be
-- opened
abbrev pub IsOfReliableFiles : Files → Named → RunFault → Type 0
IsOfReliableFiles files named (Open side) = (text : List ℕ) → HasText files named side text → ⊥
IsOfReliableFiles files named (Database fault) = fault.kind ≡ Read → ⊥
IsOfReliableFiles files named _ = ⊤

-- What a fault of a pair means, by the files at the paths of this pair. It means what it means in a
-- session over this pair alone.
pub record MeansOfPair (files : Files) (named : Named) (is_reliable : Bool) (course : Course)
    (site out : Type 0) (fault : RunFault) : Type 0 where
  -- why the fault comes
  pub cause : RunCause files named fault site out
  -- a reliable site fails only at a file that is not there
  pub reliable : is_reliable ≡ true → IsOfReliableFiles files named fault
  -- a side that could not be opened is the one that was opened last, and its last opening was
  -- refused
  pub refused : IsRefusedThere course.opened_before course.opened_after fault
  pub not_given : IsNotGiven course.given_after fault

-- The session compares the databases at the paths that are named, with this result.
pub record ComparesPair (files : Files) (is_reliable : Bool) (named : Named) (options : Options)
    (result : Result Outcome RunFault) (course : Course) (before after : Option (List ℕ))
    (site out : Type 0) : Type 0 where
  -- If it is known what is at both paths, a text or nothing: the comparison ends with the right answer and sends its
  -- report, unless an allocation, a file that is there, or the output has failed.
  pub over : (old new : Option (List ℕ)) → files named.old_path ≡ Some old
      → files named.new_path ≡ Some new
      → (r : Result Report RunFault) → RunsOver limits (asked_by options named) old new r
      → EndsOver r (IsHindered old new site out) result before after
  -- what a fault means
  pub fault : IfErr result (MeansOfPair files named is_reliable course site out)
  -- After a good comparison both texts are sound.
  pub sound : OnOk result (AreBothSound files named)
  -- For any site, also one that shows no files: what has been written is of the very outcome that is returned. It
  -- begins with the head and the summary, and is only these two if the options and the outcome call for no more.
  pub consistent : IfOk result (λ outcome. IsOfOutcome options outcome before after)
  -- Before both databases were read whole and counted, nothing is sent.
  pub unsent : IfErr result (HasSentNothing 2 (course.opened_before Old) (course.opened_after Old)
      before after)
  -- The report is flushed once, after its last byte, and after a fault not at all.
  pub flushed : OnOk result (course.is_flushed ≡ true)
  pub flushes : CountsFlush course.flushes_before course.flushes_after result
  -- All openings of a side gave bytes of one SHA-256.
  pub agreed : OnOk result (GiveOneDigest course.gives_after course.opened_before
      course.opened_after)
  -- Each side is opened to be read to its end, to count, and once for each section of entries. The outcome gives this
  -- number, and so do both texts if they are known. After a fault no side was opened more often, if both texts are
  -- sound, and after the first fault of a text no side more than once.
  pub opens_told : IfOk result (λ outcome. OpensByOutcome options outcome course.opened_before
      course.opened_after)
  pub opens : OnOk result ((old new : List ℕ) → HasText files named Old old
      → HasText files named New new
      → OpensExactly course.opened_before course.opened_after
      (openings_over (asked_by options named) old new))
  pub opens_within : (old new : List ℕ) → HasText files named Old old → HasText files named New new
      → IsSound limits old → IsSound limits new
      → OpensAtMost course.opened_before course.opened_after
      (openings_over (asked_by options named) old new)
  pub opens_first : IfErr result (OpensFirst course.opened_before course.opened_after)

-- The cause of each closing. `site` and `out` mean that the site or the output has counted a
-- failure. Memory may run out at any time.
abbrev pub ClosingCause : Files → (is_reliable : Bool) → Option JobText → Named → Closing
    → (site out : Type 0)
    → Type 0
ClosingCause files is_reliable wanted named no_job site out = wanted ≡ None
ClosingCause files is_reliable wanted named (no_settings why) site out = (why ≡ Memory)
    ⊎ ((asks : Asks wanted named) × NoSettingsCause files is_reliable asks.job site why)
ClosingCause files is_reliable wanted named (good_config s) site out =
    AsksAndReads files wanted named.config false (Ok s)
ClosingCause files is_reliable wanted named (untold_config s) site out =
    AsksAndReads files wanted named.config false (Ok s) × out
ClosingCause files is_reliable wanted named (compared options result) site out =
    (asks : AsksToCompare files wanted named) × (asks.settings.options ≡ options)

-- What a session sends, opens and flushes. Only a comparison opens a side. An accepted configuration that is only
-- checked may have a text, which is sent and flushed; without a text it has only a good closing. Every other closing
-- sends and flushes nothing.
abbrev pub ClosingDoes : Says → Files → (is_reliable : Bool) → Named → Closing → Course
    → (before after : Option (List ℕ)) → (site out : Type 0)
    → Type 0
ClosingDoes says files is_reliable named (compared options result) course before after site out =
    ComparesPair files is_reliable named options result course before after site out
ClosingDoes says files is_reliable named (good_config s) course before after site out =
    IsTold says s before after course.is_flushed course.flushes_before course.flushes_after
    × (course.opened_after ≡ course.opened_before)
ClosingDoes says files is_reliable named (untold_config s) course before after site out =
    IsUntold says s before after course.flushes_before course.flushes_after
    × (course.opened_after ≡ course.opened_before)
ClosingDoes says files is_reliable named _ course before after site out = Appends before after []
    × (course.opened_after ≡ course.opened_before)
    × (course.flushes_after ≡ course.flushes_before)

-- The status, the lines on standard error and the output are those of one closing, whose cause
-- holds. No side is opened more than six times. The site had failed `site_before` times before the session, `count`
-- times when it had read the configuration, if it has, and `site_after` times after the session.
pub record ClosesBy (says : Says) (files : Files) (is_reliable : Bool) (wanted : Option JobText)
    (status : ℕ) (sinks : Sinks) (course : Course) (site_before site_after : ℕ) (out : Type 0)
    : Type 0 where
  pub closing : Closing
  pub named : Named
  pub count : ℕ
  pub later : site_before ≤ count
  pub cause : ClosingCause files is_reliable wanted named closing (Rose count site_after) out
  pub status_is : status ≡ closing_status closing
  pub does : ClosingDoes says files is_reliable named closing course sinks.out_old sinks.out_new
      (Rose count site_after) out
  pub opens_some : OpensAtMost course.opened_before course.opened_after 6
  pub put : Puts (closing_line says named closing) sinks
