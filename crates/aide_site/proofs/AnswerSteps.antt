-- The settings of a job, and from one step of the answer to the next.
use Rattle.std.proofs.Common.{◌≡◌, ◌∙◌, ◌⊎◌, ℕ, List, Option, Some, None, refl, true, false, Bool, Ok, Err, sym, ap, inl, inr}
use Rattle.std.specs.Prelude.{Result}
use Rattle.std.proofs.Math.Path.{subst}
use Rattle.aide_conf.proofs.Laws.{every_configuration_has_an_answer, no_configuration_has_two_answers}
use Rattle.aide_conf.specs.Settings.{Configured}
use Rattle.aide_conf.specs.declared.fault.ConfFault.{ConfFault}
use Rattle.aide_site.specs.Answer.{Answer, Compares, IsAnswerBy, IsJobAnswerBy, IsSettingsAnswerBy, Named, checked_by, refused}
use Rattle.aide_site.specs.Files.{Files, is_too_large}
use Rattle.aide_site.specs.JobSettings.{AreOfFile, AreOfText, AreSettings, HasRead, ReadsJobAs, need_of, settings_by}
use Rattle.aide_site.specs.declared.job_config.NoSettings.{NoSettings}
use Rattle.aide_site.specs.declared.job_config.NoSettings.TheVariants.{Unread, TooLarge, Refused}
use Rattle.aide_site.specs.Says.{Says, usage_by}
use Rattle.aide_words.specs.Job.{JobText}

-- what is known of a file is one thing
pub one_file : (there : Option (Option (List ℕ))) (one other : Option (List ℕ)) → there ≡ Some one → there ≡ Some other
    → other ≡ one
one_file there one other p q = cc

-- ---- the settings of a job

-- those of the reading that was made
pub read_is : (files : Files) (job : JobText) (read : Result Configured ConfFault) (settings : Result Configured NoSettings)
    → HasRead files job read → AreSettings files job settings → settings ≡ settings_by read
read_is files job read settings has are =
    let of_text : AreOfText job has.text false settings =
    subst (λ (b : Bool). AreOfText job has.text b settings) has.small
    (subst (λ (o : Option (List ℕ)). AreOfFile job o settings) (has.text_is are.file are.known) are.are) in
    of_text.2 ∙ ap settings_by (no_configuration_has_two_answers (need_of job.compare) job.before has.text job.after read of_text.0
    has.reads of_text.1)

module _ (job : JobText) (one other : Result Configured NoSettings) where
  one_of_text : (text : List ℕ) (large : Bool) → AreOfText job text large one → AreOfText job text large other → one ≡ other
  one_of_text text true p q = p ∙ sym q
  one_of_text text false p q =
      p.2 ∙ ap settings_by (no_configuration_has_two_answers (need_of job.compare) job.before text job.after q.0 p.0 q.1 p.1) ∙ sym q.2

  one_of_file : (file : Option (List ℕ)) → AreOfFile job file one → AreOfFile job file other → one ≡ other
  one_of_file None p q = p ∙ sym q
  one_of_file (Some text) p q = one_of_text text (is_too_large text) p q

  -- a job has only one answer to what its settings are
  pub one_settings : (files : Files) → AreSettings files job one → AreSettings files job other → one ≡ other
  one_settings files p q =
      one_of_file p.file p.are (subst (λ (o : Option (List ℕ)). AreOfFile job o other)
      (one_file (files job.config) p.file q.file p.known q.known) q.are)

-- a job has settings, which were read, or there is a reason why it has none
abbrev pub AreFound : Files → JobText → Type 0
AreFound files job = ((why : NoSettings) × AreSettings files job (Err why))
    ⊎ ((s : Configured) × AreSettings files job (Ok s) × HasRead files job (Ok s))

module _ (files : Files) (job : JobText) where
  module _ (text : List ℕ) (known : files job.config ≡ Some (Some text)) where
    are_read : is_too_large text ≡ false → (read : Result Configured ConfFault) → ReadsJobAs job text read
        → AreSettings files job (settings_by read)
    are_read small read reads = record {
      file = Some text;
      known = known;
      are = subst (λ (b : Bool). AreOfText job text b (settings_by read)) (sym small) (read, reads, refl);
    }

    found_read : is_too_large text ≡ false → (read : Result Configured ConfFault) → ReadsJobAs job text read → AreFound files job
    found_read small (Err fault) reads = inl (Refused fault, are_read small (Err fault) reads)
    found_read small (Ok s) reads = inr (
      s,
      are_read small (Ok s) reads,
      record {
        text = text;
        text_is = λ file is. one_file (files job.config) (Some text) file known is;
        small = small;
        reads = reads;
      },
    )

    found_text : (large : Bool) → is_too_large text ≡ large → AreFound files job
    found_text true large = inl (
      TooLarge,
      record {
        file = Some text;
        known = known;
        are = subst (λ (b : Bool). AreOfText job text b (Err TooLarge)) (sym large) refl;
      },
    )
    found_text false small =
        let read = every_configuration_has_an_answer (need_of job.compare) job.before text job.after in
        found_read small read.0 read.1

  pub settings_found : (file : Option (List ℕ)) → files job.config ≡ Some file → AreFound files job
  settings_found None known = inl (Unread, record { file = None; known = known; are = refl })
  settings_found (Some text) known = found_text text known (is_too_large text) refl

-- ---- the answer

pub usage_is : (says : Says) (files : Files) (wanted : Option JobText) (named : Named) (a : Answer) → wanted ≡ None
    → IsAnswerBy says files wanted named a → a ≡ refused (usage_by says) 15
usage_is says files wanted named a none is = subst (λ (o : Option JobText). IsAnswerBy says files o named a) none is

pub job_is : (says : Says) (files : Files) (wanted : Option JobText) (job : JobText) (named : Named) (a : Answer)
    → wanted ≡ Some job → IsAnswerBy says files wanted named a → IsJobAnswerBy says files job named a
job_is says files wanted job named a some is = subst (λ (o : Option JobText). IsAnswerBy says files o named a) some is

-- a job has the answer of its settings
pub settings_answer : (says : Says) (files : Files) (job : JobText) (compare : Bool) (settings : Result Configured NoSettings)
    (named : Named) (a : Answer) (is : IsJobAnswerBy says files job named a) → job.compare ≡ compare → is.settings ≡ settings
    → IsSettingsAnswerBy says files settings compare named a
settings_answer says files job compare settings named a is compares same =
    subst (λ (b : Bool). IsSettingsAnswerBy says files settings b named a) compares
    (subst (λ (r : Result Configured NoSettings). IsSettingsAnswerBy says files r job.compare named a) same is.then_is)

pub compares_is : (says : Says) (files later : Files) (job : JobText) (s : Configured) (named : Named) (a : Answer)
    → later ≡ files → job.compare ≡ true → HasRead files job (Ok s) → IsJobAnswerBy says files job named a
    → Compares later s named a
compares_is says files later job s named a same compare has is =
    subst (λ (f : Files). Compares f s named a) (sym same)
    (settings_answer says files job true (Ok s) named a is compare (read_is files job (Ok s) is.settings has is.are))

pub checked_is : (says : Says) (files : Files) (job : JobText) (s : Configured) (named : Named) (a : Answer)
    → job.compare ≡ false → HasRead files job (Ok s) → IsJobAnswerBy says files job named a
    → a ≡ checked_by says s
checked_is says files job s named a compare has is =
    settings_answer says files job false (Ok s) named a is compare (read_is files job (Ok s) is.settings has is.are)
