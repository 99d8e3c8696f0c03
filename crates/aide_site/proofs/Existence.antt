-- There is an answer, where it is told what stands at the paths that are named.
use Rattle.std.proofs.Common.{◌≡◌, ℕ, List, [], Option, Some, None, refl, sym, arith, Bool, true, false, Ok, Err, inl, inr}
use Rattle.std.specs.Prelude.{Result, IsSome}
use Rattle.std.proofs.Math.Path.{subst}
use Rattle.aide_conf.specs.Settings.{Configured}
use Rattle.aide_conf.specs.declared.options.Options.{Options}
use Rattle.aide_db.specs.declared.fault.DbFault.{DbFault}
use Rattle.aide_db.specs.declared.side.Side.TheVariants.{Old, New}
use Rattle.aide_db.proofs.FaultExists.{sound_or_fault}
use Rattle.aide_merge.specs.Asked.{Asked}
use Rattle.aide_merge.specs.RightAnswer.{Report}
use Rattle.aide_report_specs.specs.Runs.{Runs, report_over}
use Rattle.aide_site.specs.Answer.{Answer, Named, Compares, IsCompared, IsJobAnswerBy, IsSettingsAnswerBy, answer_of_run}
use Rattle.aide_site.specs.Answer.{asked_by, checked_by, limits, refused}
use Rattle.aide_site.specs.Closing.{AsksToCompare}
use Rattle.aide_site.specs.Existence.{HasSessionAnswerBy, TellsNamed}
use Rattle.aide_site.specs.Files.{Files}
use Rattle.aide_site.specs.JobSettings.{AreSettings, HasRead, no_settings_line, no_settings_status}
use Rattle.aide_site.specs.Lines.{open_line, database_line}
use Rattle.aide_site.specs.Says.{Says, usage_by}
use Rattle.aide_site.specs.declared.whose.Whose.TheVariants.{Compared}
use Rattle.aide_site.proofs.AnswerSteps.{AreFound, settings_found}
use Rattle.aide_site.proofs.Closings.{only_config}
use Rattle.aide_site.proofs.JobSettings.{both_named}
use Rattle.aide_words.specs.Job.{JobText}

-- two texts have a right answer
run_of : (wish : Asked) (old new : List ℕ) → (run : Result Report DbFault) × Runs limits wish old new run
run_of wish old new = elim (sound_or_fault limits old (omega arith)) [
  | inr bad ↦ (Err (record { side = Old; line = bad.0; kind = bad.1 }), inl (refl, bad.2))
  | inl sound_old ↦ elim (sound_or_fault limits new (omega arith)) [
    | inr bad ↦ (Err (record { side = New; line = bad.0; kind = bad.1 }), inr (sound_old, (refl, bad.2)))
    | inl sound_new ↦ (Ok (report_over wish old new), (sound_old, sound_new, refl))
  ]
]

-- what stands at both paths has an answer
compared : (options : Options) (named : Named) (old new : Option (List ℕ)) → (a : Answer) × IsCompared options named old new a
compared options named None new = (refused (open_line Compared Old named.old_path) 18, refl)
compared options named (Some old) None = elim (sound_or_fault limits old (omega arith)) [
  | inr bad ↦
      let fault : DbFault = record { side = Old; line = bad.0; kind = bad.1 } in
      (refused (database_line Compared fault) 24, inr (fault, (refl, bad.2), refl))
  | inl sound ↦ (refused (open_line Compared New named.new_path) 18, inl (sound, refl))
]
compared options named (Some old) (Some new) =
    let run = run_of (asked_by options named) old new in (answer_of_run run.0, (run.0, run.1, refl))

pub value_of : (path : Option (List ℕ)) → IsSome path → (value : List ℕ) × (path ≡ Some value)
value_of None some = cc
value_of (Some value) some = (value, refl)

-- an answer to a job, and the paths that are named on the way there
abbrev Answered : Says → Files → JobText → Type 0
Answered says files job = (named : Named) × (a : Answer) × IsJobAnswerBy says files job named a

module _ (says : Says) (files : Files) (wanted : Option JobText) (tells : TellsNamed files wanted) (job : JobText)
    (job_is : wanted ≡ Some job) where
  of_settings : (s : Configured) → AreSettings files job (Ok s) → HasRead files job (Ok s) → (compare : Bool) → job.compare ≡ compare
      → Answered says files job
  of_settings s are has false checks =
      let named = only_config job.config in
      let a = checked_by says s in (
        named,
        a,
        record {
          config_is = refl;
          settings = Ok s;
          are = are;
          then_is = subst (λ (b : Bool). IsSettingsAnswerBy says files (Ok s) b named a) (sym checks) refl;
        },
      )
  of_settings s are has true compares =
      let both = both_named files job s compares has in
      let old_path = value_of s.old_path both.0 in
      let new_path = value_of s.new_path both.1 in
      let named : Named = record { config = job.config; old_path = old_path.0; new_path = new_path.0 } in
      let asks : AsksToCompare files wanted named = record {
        settings = s;
        asks = record { job = job; job_is = job_is; config_is = refl; compare_is = compares; has = has };
        old_is = old_path.1;
        new_is = new_path.1;
      } in
      let old = tells.databases named asks Old in
      let new = tells.databases named asks New in
      let answer = compared s.options named old.0 new.0 in
      let of_paths : Compares files s named answer.0 = record {
        old_is = old_path.1;
        new_is = new_path.1;
        old_file = old.0;
        new_file = new.0;
        old_told = old.1;
        new_told = new.1;
        then_is = answer.1;
      } in (
        named,
        answer.0,
        record {
          config_is = refl;
          settings = Ok s;
          are = are;
          then_is = subst (λ (b : Bool). IsSettingsAnswerBy says files (Ok s) b named answer.0) (sym compares) of_paths;
        },
      )

  of_job : AreFound files job → Answered says files job
  of_job (inl none) = (
    only_config job.config,
    refused (no_settings_line job.config none.0) (no_settings_status none.0),
    record { config_is = refl; settings = Err none.0; are = none.1; then_is = refl },
  )
  of_job (inr found) = of_settings found.0 found.1 found.2 job.compare refl

-- what the arguments ask for has an answer where it is told what stands at the paths that are named
pub answered : (says : Says) (files : Files) (wanted : Option JobText) → TellsNamed files wanted
    → HasSessionAnswerBy says files wanted
answered says files None tells = (only_config [], refused (usage_by says) 15, refl)
answered says files (Some job) tells =
    let config = tells.config job refl in
    of_job says files (Some job) tells job refl (settings_found files job config.0 config.1)
