-- The settings of a job, and what follows if it has none.
use Rattle.std.proofs.Common.{◌≡◌, ◌∙◌, ◌⊎◌, ℕ, List, [], Option, Some, None, Ok, Err, Bool, true, false, ap, inl, inr, refl, rules}
use Rattle.std.specs.Io.KnownBytes.{Appends}
use Rattle.std.specs.Prelude.{Result, IfOk, IfErr, IsSome}
use Rattle.std.proofs.Math.Path.{subst}
use Rattle.aide_conf.proofs.Laws.{what_is_compared_is_named}
use Rattle.aide_conf.specs.Cutting.{places}
use Rattle.aide_conf.specs.ReadResult.{IsRefused, IsStarved, ReadsAs}
use Rattle.aide_conf.specs.Settings.{Configured}
use Rattle.aide_conf.specs.declared.fault.ConfFault.{ConfFault}
use Rattle.aide_conf.specs.declared.fault.ConfFaultKind.TheVariants as conf
use Rattle.aide_conf.specs.declared.task.Need.{Need}
use Rattle.aide_site.specs.Answer.{AnswerOf, Named}
use Rattle.aide_site.specs.Ends.{EndsOf, Puts, Sinks, Written, config_unread}
use Rattle.aide_site.specs.Files.{Files, IsLarge, is_too_large}
use Rattle.aide_site.specs.declared.whose.Whose.{Whose}
use Rattle.aide_site.specs.declared.whose.Whose.TheVariants.{Compared}
use Rattle.aide_site.specs.JobSettings.{AreOfFile, AreOfText, AreSettings, HasRead, IsNotOfText, NoSettingsCause, ReadsJobAs}
use Rattle.aide_site.specs.JobSettings.{need_of, no_settings_line, no_settings_status}
use Rattle.aide_site.specs.declared.job_config.NoSettings.{NoSettings}
use Rattle.aide_site.specs.declared.job_config.NoSettings.TheVariants.{Memory, Unread, TooLarge, Refused}
use Rattle.aide_site.proofs.AnswerSteps.{one_file, read_is}
use Rattle.aide_site.proofs.Endings.{broken, by_reliable, starved_for}
use Rattle.aide_site.proofs.PutLemmas.{put_as}
use Rattle.aide_words.specs.Job.{JobText}

-- ---- what the texts of a job read as

-- a configuration reads as this for the same need and the same texts
pub reads_same : (need job_need : Need) (before job_before text after job_after : List ℕ) (read : Result Configured ConfFault)
    → need ≡ job_need → before ≡ job_before → after ≡ job_after
    → ReadsAs need before text after read → ReadsAs job_need job_before text job_after read
reads_same need job_need before job_before text after job_after read is_need is_before is_after reads = search rules

-- a refusal that is not for want of memory is that of the configuration
pub refused_as : (need : Need) (before text after : List ℕ) (fault : ConfFault)
    → IsRefused need (places before text after) fault ⊎ IsStarved need (places before text after) fault
    → (fault.kind ≡ conf.Memory → ⊥) → ReadsAs need before text after (Err fault)
refused_as need before text after fault refused other = search rules

module _ (files : Files) (job : JobText) (text copy : List ℕ) (same : copy ≡ text)
    (found : (file : Option (List ℕ)) → files job.config ≡ Some file → (file ≡ Some text) × (is_too_large text ≡ false))
    (small : is_too_large text ≡ false) where
  read_as : (read : Result Configured ConfFault) → ReadsJobAs job copy read → HasRead files job read
  read_as read reads = record {
    text = text;
    text_is = λ file known. (found file known).0;
    small = small;
    reads = subst (λ (t : List ℕ). ReadsJobAs job t read) same reads;
  }

  -- the settings of a text are those of the job whose configuration it is
  pub has_settings : (result : Result Configured NoSettings) → IfOk result (λ s. ReadsJobAs job copy (Ok s))
      → IfOk result (λ s. HasRead files job (Ok s))
  has_settings (Ok s) reads = read_as (Ok s) reads
  has_settings (Err why) reads = tt

  -- and so is its fault
  pub has_fault : (reliable : Bool) (site : Type 0) (result : Result Configured NoSettings) → IfErr result (IsNotOfText job copy)
      → IfErr result (NoSettingsCause files reliable job site)
  has_fault reliable site (Ok s) reads = tt
  has_fault reliable site (Err Memory) reads = tt
  has_fault reliable site (Err Unread) reads = absurd reads
  has_fault reliable site (Err TooLarge) reads = absurd reads
  has_fault reliable site (Err (Refused fault)) reads = read_as (Err fault) reads

-- ---- for a job that is equal

pub read_for : (files : Files) (one other : JobText) (read : Result Configured ConfFault) → one ≡ other → HasRead files one read
    → HasRead files other read
read_for files one other read same has = subst (λ (j : JobText). HasRead files j read) same has

pub cause_for : (files : Files) (reliable : Bool) (one other : JobText) (site : Type 0) (why : NoSettings) → one ≡ other
    → NoSettingsCause files reliable one site why → NoSettingsCause files reliable other site why
cause_for files reliable one other site why same cause =
    subst (λ (j : JobText). NoSettingsCause files reliable j site why) same cause

-- what a comparison reads names both databases
pub both_named : (files : Files) (job : JobText) (s : Configured) → job.compare ≡ true → HasRead files job (Ok s)
    → IsSome s.old_path × IsSome s.new_path
both_named files job s compare has =
    what_is_compared_is_named job.before has.text job.after s
    (subst (λ (b : Bool). ReadsAs (need_of b) job.before has.text job.after (Ok s)) compare has.reads)

-- ---- a session without settings

of_large : (job : JobText) (file : Option (List ℕ)) (settings : Result Configured NoSettings) → IsLarge file → AreOfFile job file settings
    → settings ≡ Err TooLarge
of_large job None settings large are = absurd large
of_large job (Some text) settings large are = subst (λ (b : Bool). AreOfText job text b settings) large are

-- why a job has no settings: memory, what its files are, or a failure of a site that is not reliable
pub stopped : (files : Files) (reliable : Bool) (job : JobText) (site : Type 0) (why : NoSettings) (settings : Result Configured NoSettings)
    → NoSettingsCause files reliable job site why → AreSettings files job settings
    → (why ≡ Memory) ⊎ ((settings ≡ Err why) ⊎ ((why ≡ Unread) × (reliable ≡ false) × site))
stopped files reliable job site Memory settings cause are = inl refl
stopped files reliable job site Unread settings cause are = inr (by_reliable reliable _
    (λ is. inl (subst (λ (o : Option (List ℕ)). AreOfFile job o settings)
    (one_file (files job.config) None are.file (cause.1 is) are.known) are.are))
    (λ is. inr (refl, is, cause.0)))
stopped files reliable job site TooLarge settings cause are =
    inr (inl (of_large job are.file settings (cause are.file are.known) are.are))
stopped files reliable job site (Refused fault) settings cause are = inr (inl (read_is files job (Err fault) settings cause are))

-- it ends with the answer to its job, or is kept from it
pub ends_without : {O : Type 0} (w : Written O) (a : AnswerOf O) (named : Whose → Named) (status : ℕ) (s : Sinks)
    (site : Whose → Type 0) (out : Type 0) (files : Files) (reliable : Bool) (job : JobText) (rose : Type 0) (why : NoSettings)
    (settings : Result Configured NoSettings)
    → w.begun a.output s.out_old s.out_new → NoSettingsCause files reliable job rose why → AreSettings files job settings
    → status ≡ no_settings_status why → Appends s.out_old s.out_new [] → Puts (no_settings_line (named Compared).config why) s
    → (settings ≡ Err why → EndsOf w a named status s site out) → ((reliable ≡ false) × rose → site Compared)
    → EndsOf w a named status s site out
ends_without w a named status s site out files reliable job rose why settings begun cause are status_is none put whole failed =
    elim (stopped files reliable job rose why settings cause are) [
      | inl memory ↦ starved_for w a named status s site out (named Compared).config why memory status_is none put
      | inr other ↦ elim other [
        | inl same ↦ whole same
        | inr unread ↦ broken w a named status s site out begun config_unread (status_is ∙ ap no_settings_status unread.0)
            (failed (unread.1, unread.2)) (put_as _ _ (ap (no_settings_line (named Compared).config) unread.0) put)
      ]
    ]
