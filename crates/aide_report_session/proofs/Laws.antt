-- What the answer to arguments is, step by step, from what a caller knows of them and of the files, and that there is one
-- and only one.
use Rattle.std.specs.Prelude.{◌≡◌, ◌≤◌, ℕ, Option, Some, None, List, [], ◌∷◌, Result, Ok, Err, Bool, true}
use Rattle.std.specs.Io.KnownBytes.{append_known}
use Rattle.std.proofs.Common.{refl, sym, ap, append-nil, arith, rules}
use Rattle.std.proofs.Math.Path.{subst}
use Rattle.aide_conf.specs.Settings.{Configured}
use Rattle.aide_conf.specs.ReadResult.{ReadsAs}
use Rattle.aide_db.specs.declared.fault.DbFault.{DbFault}
use Rattle.aide_entry.specs.declared.fault_kind.DbFaultKind.{DbFaultKind}
use Rattle.aide_entry.specs.declared.fault_kind.DbFaultKind.TheVariants.{Read}
use Rattle.aide_merge.specs.FaultStatus.{fault_status, kind_status}
use Rattle.aide_merge.specs.RightAnswer.{Report}
use Rattle.aide_merge.specs.declared.run_fault.RunFault.{RunFault}
use Rattle.aide_merge.specs.declared.run_fault.RunFault.TheVariants.{Database}
use Rattle.aide_report_specs.specs.Given.{GiveOneDigest}
use Rattle.aide_report_specs.specs.Runs.{Runs}
use Rattle.aide_site.specs.Answer.{Answer, Named, limits, asked_by, answer_of_run, Compares, IsAnswerBy, IsJobAnswerBy}
use Rattle.aide_site.specs.Answer.{IsSettingsAnswerBy}
use Rattle.aide_report_session.specs.Asks.{Asks}
use Rattle.aide_site.specs.Closing.{Closing, ClosingDoes, Course, closing_status, compared, good_config, no_settings}
use Rattle.aide_site.specs.Existence.{HasSessionAnswerBy, TellsNamed}
use Rattle.aide_site.specs.Files.{Files}
use Rattle.aide_site.specs.JobSettings.{AreOfText, ReadsJobAs, need_of, no_settings_status}
use Rattle.aide_site.specs.declared.job_config.NoSettings.{NoSettings}
use Rattle.aide_site.specs.declared.job_config.NoSettings.TheVariants.{Memory}
use Rattle.aide_site.specs.Page.{Paged, known_of, none_waits}
use Rattle.aide_site.specs.Says.{Says}
use Rattle.aide_site.specs.Session.{IsSessionBy, SessionView}
use Rattle.aide_words.specs.Job.{JobText, job_of}
use Rattle.aide_site.proofs.Existence.{answered}
use Rattle.aide_report_session.proofs.Uniqueness.{one_answer}

-- If the arguments ask for a comparison of two texts, its right answer is the answer to the arguments, whatever is
-- said of a configuration.
pub answer_by_what_is_asked : (says : Says) (files : Files) (words : List (List ℕ)) (named : Named) (settings : Configured)
    (old new : List ℕ) (run : Result Report DbFault) → Asks files words named settings old new
    → Runs limits (asked_by settings.options named) old new run
    → IsAnswerBy says files (job_of words) named (answer_of_run run)
answer_by_what_is_asked says files words named settings old new run asks runs =
    let a = answer_of_run run in
    let compared : Compares files settings named a = record {
      old_is = asks.old_path;
      new_is = asks.new_path;
      old_file = Some old;
      new_file = Some new;
      old_told = asks.old_there;
      new_told = asks.new_there;
      then_is = (run, runs, refl);
    } in
    let reads : ReadsJobAs asks.job asks.config (Ok settings) =
    subst (λ (b : Bool). ReadsAs (need_of b) asks.job.before asks.config asks.job.after (Ok settings)) (sym asks.compares) asks.accepted in
    let of_job : IsJobAnswerBy says files asks.job named a = record {
      config_is = asks.config_is;
      settings = Ok settings;
      are = record {
        file = Some asks.config;
        known = asks.config_there;
        are = subst (λ (b : Bool). AreOfText asks.job asks.config b (Ok settings)) (sym asks.small) (Ok settings, reads, refl);
      };
      then_is = subst (λ (b : Bool). IsSettingsAnswerBy says files (Ok settings) b named a) (sym asks.compares) compared;
    } in
    subst (λ (o : Option JobText). IsAnswerBy says files o named a) (sym asks.job_is) of_job

-- If it is known what is at the paths that are named, what the arguments ask for has an answer.
pub arguments_have_an_answer : (says : Says) (files : Files) (wanted : Option JobText) → TellsNamed files wanted
    → HasSessionAnswerBy says files wanted
arguments_have_an_answer = answered

-- It has only one.
pub no_arguments_have_two_answers : (says : Says) (files : Files) (wanted : Option JobText) (named other : Named)
    (a b : Answer) → IsAnswerBy says files wanted named a → IsAnswerBy says files wanted other b → a ≡ b
no_arguments_have_two_answers = one_answer

none_left : (waiting : List ℕ) → none_waits waiting ≡ true → waiting ≡ []
none_left [] is = refl
none_left (byte ∷ waiting) is = search rules

nothing_added : (sent : Option (List ℕ)) → append_known sent [] ≡ sent
nothing_added None = refl
nothing_added (Some bytes) = search (rules, append-nil)

-- Where no byte waits on a page, what was written into it is what was written into its sink.
pub a_flushed_page_holds_nothing_back : {W : Type 0} (delivered : W → Option (List ℕ)) (page : Paged W)
    → none_waits page.waiting ≡ true → known_of delivered page ≡ delivered page.sink
a_flushed_page_holds_nothing_back delivered page flushed = search (rules, none_left, nothing_added)

-- ---- after a status of at most 7

no_kind_so_low : (kind : DbFaultKind) → kind_status kind ≤ 7 → ⊥
no_kind_so_low Read low = omega (arith, low)
no_kind_so_low _ low = omega (arith, low)

no_fault_so_low : (fault : RunFault) → fault_status fault ≤ 7 → ⊥
no_fault_so_low (Database fault) low = no_kind_so_low fault.kind low
no_fault_so_low _ low = omega (arith, low)

no_stop_so_low : (why : NoSettings) → no_settings_status why ≤ 7 → ⊥
no_stop_so_low Memory low = omega (arith, low)
no_stop_so_low _ low = omega (arith, low)

none_opened : (course : Course) → course.opened_after ≡ course.opened_before
    → GiveOneDigest course.gives_after course.opened_before course.opened_after
none_opened course same = λ side number other text more is also.
    let count = ap (λ opened. opened side) same in absurd (omega (arith, count, is.since, is.until))

one_digest_at : (says : Says) (files : Files) (reliable : Bool) (named : Named) (closing : Closing) (course : Course)
    (c d : Option (List ℕ)) (site out : Type 0) → closing_status closing ≤ 7
    → ClosingDoes says files reliable named closing course c d site out
    → GiveOneDigest course.gives_after course.opened_before course.opened_after
one_digest_at says files reliable named (compared options (Ok outcome)) course c d site out low does = does.agreed
one_digest_at says files reliable named (compared options (Err fault)) course c d site out low does = absurd (no_fault_so_low fault low)
one_digest_at says files reliable named (good_config s) course c d site out low does = none_opened course does.1
one_digest_at says files reliable named (no_settings why) course c d site out low does = absurd (no_stop_so_low why low)
one_digest_at says files reliable named _ course c d site out low does = absurd (omega (arith, low))

-- If a session ends with a status of at most 7, all openings of a side gave bytes of one SHA-256: by its clause `closes`.
pub a_good_status_means_one_digest : (says : Says) (wanted : Option JobText) (status : ℕ) (s : SessionView)
    → IsSessionBy says wanted status s → status ≤ 7
    → GiveOneDigest s.course.gives_after s.course.opened_before s.course.opened_after
a_good_status_means_one_digest says wanted status s session low =
    let closes = session.closes in
    one_digest_at says s.files s.is_reliable closes.named closes.closing s.course s.sinks.out_old s.sinks.out_new _ _
    (subst (λ (k : ℕ). k ≤ 7) closes.status_is low) closes.does
