-- How a session closes over any site.
use Rattle.std.proofs.Common.{◌≡◌, ℕ, ◌≤◌, List, [], Option, Some, None, sym, Bool, true, false, Ok, inl, inr, arith, refl, rules}
use Rattle.std.specs.Prelude.{Result, ⊤}
use Rattle.std.specs.Io.KnownBytes.{Appends}
use Rattle.std.proofs.Math.Path.{subst}
use Rattle.aide_conf.specs.Settings.{Configured}
use Rattle.aide_conf.specs.declared.fault.ConfFault.{ConfFault}
use Rattle.aide_db.specs.declared.side.Side.{Side}
use Rattle.aide_db.specs.declared.side.Side.TheVariants.{Old, New}
use Rattle.aide_db.specs.declared.sources.Sources.{Ghosts as AnySources}
use Rattle.aide_text.specs.Failures.{Rose}
use Rattle.aide_merge.specs.Openings.{OpensAtMost}
use Rattle.aide_merge.specs.Room.{IsNotOfMemory}
use Rattle.aide_merge.specs.RunFaults.{IsCaused, IsRight}
use Rattle.aide_merge.specs.RightAnswer.{TellsSide}
use Rattle.aide_merge.specs.declared.run_fault.RunFault.{RunFault}
use Rattle.aide_merge.specs.declared.run_fault.RunFault.TheVariants.{Open, Database, Changed, Write}
use Rattle.aide_site.specs.Answer.{Named, limits}
use Rattle.aide_site.specs.Closing.{Asks, AsksAndReads, AsksToCompare, ClosesBy, Closing, Course, course_between}
use Rattle.aide_site.specs.Closing.{ClosingCause, ClosingDoes, HasText, IsTold, IsUntold, RunCause, untold_config}
use Rattle.aide_site.specs.Closing.{closing_line, closing_status, compared, good_config, no_job, no_settings}
use Rattle.aide_site.specs.Ends.{Sinks}
use Rattle.aide_site.specs.Files.{Files}
use Rattle.aide_site.specs.Says.{Says, usage_by}
use Rattle.aide_site.specs.Session.{SessionView}
use Rattle.aide_text.specs.declared.sink.Sink.{Ghosts as AnySink}
use Rattle.aide_words.specs.Job.{JobText}
use Rattle.aide_site.specs.Lines.{memory_line, write_line}
use Rattle.aide_site.specs.JobSettings.{HasRead, NoSettingsCause, no_settings_line, no_settings_status}
use Rattle.aide_site.specs.Pointing.{KeepsFiles}
use Rattle.aide_site.specs.declared.job_config.NoSettings.{NoSettings}
use Rattle.aide_site.specs.declared.job_config.NoSettings.TheVariants.{Memory}
use Rattle.aide_site.specs.Put.{Put}
use Rattle.aide_site.specs.code.Parts.{ClosesFor}
use Rattle.aide_site.proofs.Endings.{sinks}

opens_none : (before after : Side → ℕ) (most : ℕ) → after ≡ before → OpensAtMost before after most
opens_none before after most is = search rules

-- where only the configuration is named
abbrev pub only_config : List ℕ → Named
only_config config = record { config = config; old_path = []; new_path = [] }

module _ (says : Says) (files : Files) (reliable : Bool) (wanted : Option JobText) (status : ℕ) (c d e f : Option (List ℕ)) (m n : ℕ)
    (course : Course) (before after : ℕ) (out : Type 0) (unopened : course.opened_after ≡ course.opened_before) where
  abbrev Closes : Type 0
  Closes = ClosesBy says files reliable wanted status (sinks c d e f m n) course before after out

  -- a closing that opens no side
  closes_as : (closing : Closing) (named : Named) → ClosingCause files reliable wanted named closing (Rose before after) out
      → status ≡ closing_status closing → ClosingDoes says files reliable named closing course c d (Rose before after) out
      → Put (closing_line says named closing) e f m n
      → Closes
  closes_as closing named cause status_is does put = record {
    closing = closing;
    named = named;
    count = before;
    later = omega arith;
    cause = cause;
    status_is = status_is;
    does = does;
    opens_some = opens_none course.opened_before course.opened_after 6 unopened;
    put = put;
  }

  -- of an accepted configuration that is only checked
  pub closes_told : (config : List ℕ) (s : Configured) → AsksAndReads files wanted config false (Ok s) → status ≡ 0
      → IsTold says s c d course.is_flushed course.flushes_before course.flushes_after → Put [] e f m n → Closes
  closes_told config s read status_is told put =
      closes_as (good_config s) (only_config config) read status_is (told, unopened) put

  pub closes_untold : (config : List ℕ) (s : Configured) → AsksAndReads files wanted config false (Ok s) → status ≡ 18
      → IsUntold says s c d course.flushes_before course.flushes_after → out → Put write_line e f m n → Closes
  closes_untold config s read status_is untold rose put =
      closes_as (untold_config s) (only_config config) (read, rose) status_is (untold, unopened) put

  -- of a job without settings, and of arguments that ask for no job
  module _ (none : Appends c d []) (unflushed : course.flushes_after ≡ course.flushes_before) where
    pub closes_misused : wanted ≡ None → status ≡ 15 → Put (usage_by says) e f m n → Closes
    closes_misused none_wanted status_is put =
        closes_as no_job (only_config []) none_wanted status_is (none, unopened, unflushed) put

    pub closes_starved : status ≡ 22 → Put memory_line e f m n → Closes
    closes_starved status_is put =
        closes_as (no_settings Memory) (only_config []) (inl refl) status_is (none, unopened, unflushed) put

    pub closes_without : (job : JobText) (why : NoSettings) → wanted ≡ Some job
        → NoSettingsCause files reliable job (Rose before after) why → status ≡ no_settings_status why
        → Put (no_settings_line job.config why) e f m n → Closes
    closes_without job why is cause status_is put =
        let asks : Asks wanted (only_config job.config) = record { job = job; job_is = is; config_is = refl } in
        closes_as (no_settings why) (only_config job.config) (inr (asks, cause)) status_is (none, unopened, unflushed) put

-- the configuration of a job was read, and reads as this
pub asks_and_reads : (files later : Files) (wanted : Option JobText) (job : JobText) (compare : Bool)
    (read : Result Configured ConfFault)
    → later ≡ files → wanted ≡ Some job → job.compare ≡ compare → HasRead files job read
    → AsksAndReads later wanted job.config compare read
asks_and_reads files later wanted job compare read same is compare_is has = record {
  job = job;
  job_is = is;
  config_is = refl;
  compare_is = compare_is;
  has = subst (λ (f : Files). HasRead f job read) (sym same) has;
}

-- the cause of a run's fault, over files that the sources tell
pub run_cause : (files : Files) (named : Named) (bytes_of : Side → Option (List ℕ)) (fault : RunFault) (site out : Type 0)
    → ((side : Side) (text : List ℕ) → HasText files named side text → bytes_of side ≡ Some text)
    → IsCaused site out fault → IsRight limits bytes_of fault → IsNotOfMemory fault
    → RunCause files named fault site out
run_cause files named bytes_of (Open side) site out tells cause right fed = cause
run_cause files named bytes_of (Database fault) site out tells cause right fed =
    (cause, (λ text has. right text (tells fault.side text has)), fed)
run_cause files named bytes_of (Changed side) site out tells cause right fed = λ text has. right text (tells side text has)
run_cause files named bytes_of (Write written) site out tells cause right fed = cause

abbrev denies_old : Side → Type 0
denies_old Old = ⊥
denies_old New = ⊤

pub old_is_not_new : Old ≡ New → ⊥
old_is_not_new e = subst denies_old (sym e) tt

-- what two calls of a site in a row leave as it was
pub kept_then : {S R : Type 0} (s : AnySources S R) (a b c : S) → KeepsFiles s a b → KeepsFiles s b c → KeepsFiles s a c
kept_then s a b c first then = search rules

-- a side that was pointed at a path is told as what stands there
pub told_side : (there : Option (Option (List ℕ))) (bytes : Option (List ℕ)) (is_missing : Bool) (file : Option (List ℕ))
    → ((text : List ℕ) → there ≡ Some (Some text) → bytes ≡ Some text) → (there ≡ Some None → is_missing ≡ true)
    → there ≡ Some file → TellsSide bytes is_missing file
told_side there bytes is_missing None pointed gone is = gone is
told_side there bytes is_missing (Some text) pointed gone is = pointed text is

pub asks_over : (files later : Files) (wanted : Option JobText) (named : Named) → later ≡ files
    → AsksToCompare files wanted named → AsksToCompare later wanted named
asks_over files later wanted named same asks = record {
  settings = asks.settings;
  asks = subst (λ (f : Files). AsksAndReads f wanted named.config true (Ok asks.settings)) (sym same) asks.asks;
  old_is = asks.old_is;
  new_is = asks.new_is;
}

-- with the same options
pub same_options : (files later : Files) (wanted : Option JobText) (named : Named) (same : later ≡ files)
    (asks : AsksToCompare files wanted named)
    → (asks_over files later wanted named same asks).settings.options ≡ asks.settings.options
unfolding asks_over
same_options files later wanted named same asks = refl

-- a closing over the same files and openings, after a call that may have counted failures
pub closes_later : (says : Says) (files later : Files) (reliable later_reliable : Bool) (wanted : Option JobText) (status : ℕ) (s : Sinks)
    (course later_course : Course) (before later_before after : ℕ) (out : Type 0)
    → later ≡ files → later_reliable ≡ reliable → later_course ≡ course → before ≤ later_before
    → ClosesBy says later later_reliable wanted status s later_course later_before after out
    → ClosesBy says files reliable wanted status s course before after out
closes_later says files later reliable later_reliable wanted status s course later_course before later_before after out same same_reliable
    same_course more closes =
    let here = subst (λ (f : Files). ClosesBy says f reliable wanted status s course later_before after out) same
    (subst (λ (b : Bool). ClosesBy says later b wanted status s course later_before after out) same_reliable
    (subst (λ (k : Course). ClosesBy says later later_reliable wanted status s k later_before after out) same_course closes)) in
    record {
      closing = here.closing;
      named = here.named;
      count = here.count;
      later = let h = here.later in omega (arith, more, h);
      cause = here.cause;
      status_is = here.status_is;
      does = here.does;
      opens_some = here.opens_some;
      put = here.put;
    }

-- the sides were opened as often
pub same_course : {S R W : Type 0} (s : AnySources S R) (w : AnySink W) (before later after : S) (out_old out_new : W)
    → s.openings later ≡ s.openings before
    → course_between s w later after out_old out_new ≡ course_between s w before after out_old out_new
same_course s w before later after out_old out_new same = search rules

-- ---- if only a configuration is checked

-- no comparison is asked for
abbrev pub OnlyChecks : Option JobText → Type 0
OnlyChecks wanted = (job : JobText) → wanted ≡ Some job → job.compare ≡ false

never_compares : (files : Files) (wanted : Option JobText) (named : Named) → OnlyChecks wanted → AsksToCompare files wanted named → ⊥
never_compares files wanted named checks asks =
    let no = checks asks.asks.job asks.asks.job_is in
    let yes = asks.asks.compare_is in cc

unopened_by : (says : Says) (files : Files) (reliable : Bool) (wanted : Option JobText) (named : Named) (closing : Closing)
    (course : Course) (before after : Option (List ℕ)) (site out : Type 0) → OnlyChecks wanted
    → ClosingCause files reliable wanted named closing site out
    → ClosingDoes says files reliable named closing course before after site out → course.opened_after ≡ course.opened_before
unopened_by says files reliable wanted named (compared options result) course before after site out checks cause does =
    absurd (never_compares files wanted named checks cause.0)
unopened_by says files reliable wanted named no_job course before after site out checks cause does = does.1
unopened_by says files reliable wanted named (no_settings why) course before after site out checks cause does = does.1
unopened_by says files reliable wanted named (good_config s) course before after site out checks cause does = does.1
unopened_by says files reliable wanted named (untold_config s) course before after site out checks cause does = does.1

-- no side is opened then
pub closes_unopened : (says : Says) (wanted : Option JobText) (status : ℕ) (s : SessionView) → OnlyChecks wanted
    → ClosesFor says wanted status s → s.course.opened_after ≡ s.course.opened_before
closes_unopened says wanted status s checks closes =
    unopened_by says s.files s.is_reliable wanted closes.named closes.closing s.course s.sinks.out_old s.sinks.out_new _ _ checks
    closes.cause closes.does
