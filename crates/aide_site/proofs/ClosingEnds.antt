-- From how a session closes to how it ends.
use Rattle.std.proofs.Common.{◌≡◌, ◌∙◌, ℕ, ◌≤◌, List, [], Option, Some, None, refl, sym, ap, arith, true, false, Ok, Err, inl, inr, rules}
use Rattle.std.specs.Prelude.{Bool, IfErr, Result}
use Rattle.std.specs.Io.KnownBytes.{Appends, Keeps}
use Rattle.std.proofs.Math.Path.{subst}
use Rattle.aide_conf.specs.Settings.{Configured}
use Rattle.aide_conf.specs.declared.options.Options.{Options}
use Rattle.aide_db.specs.declared.fault.DbFault.{DbFault}
use Rattle.aide_db.specs.declared.side.Side.{Side}
use Rattle.aide_db.specs.declared.side.Side.TheVariants.{Old, New}
use Rattle.aide_entry.specs.Count.{one_more}
use Rattle.aide_entry.specs.declared.fault_kind.DbFaultKind.{DbFaultKind}
use Rattle.aide_entry.specs.declared.fault_kind.DbFaultKind.TheVariants as db
use Rattle.aide_merge.specs.FaultStatus.{fault_status, kind_status}
use Rattle.aide_merge.specs.RightAnswer.{IsHindered, Report, StopsFor, run_answer}
use Rattle.aide_merge.specs.declared.outcome.Outcome.{Outcome}
use Rattle.aide_merge.specs.declared.run_fault.RunFault.{RunFault}
use Rattle.aide_merge.specs.declared.run_fault.RunFault.TheVariants.{Open, Database}
use Rattle.aide_report_specs.specs.Missing.{EndsOver, RunsOver, SendsFront}
use Rattle.aide_text.specs.Failures.{Rose}
use Rattle.aide_text.specs.Sent.{SendsPart}
use Rattle.aide_site.specs.Answer.{Answer, Compares, IsAnswerBy, IsCompared, IsJobAnswerBy, Named, answer_of_run, asked_by, checked_by}
use Rattle.aide_site.specs.Answer.{limits, refused}
use Rattle.aide_site.specs.Closing.{AsksToCompare, Closing, ClosingCause, ClosingDoes, ComparesPair, IsTold, IsUntold, MeansOfPair}
use Rattle.aide_site.specs.Closing.{closing_line, closing_status, compared, compared_line, compared_status, good_config, no_job}
use Rattle.aide_site.specs.Closing.{no_settings, untold_config}
use Rattle.aide_site.specs.Ends.{Ends, HasFailed, Puts, of_sites, of_whose, texts, unread, unwritten}
use Rattle.aide_site.specs.JobSettings.{no_settings_line, no_settings_status}
use Rattle.aide_site.specs.Lines.{database_line, kind_line, run_fault_line, write_line}
use Rattle.aide_site.specs.Put.{HasNoFailure}
use Rattle.aide_site.specs.Says.{Says, usage_by}
use Rattle.aide_site.specs.Session.{IsSessionBy, SessionView}
use Rattle.aide_site.specs.code.Parts.{ClosesFor}
use Rattle.aide_site.specs.declared.whose.Whose.TheVariants.{Compared}
use Rattle.aide_site.proofs.AnswerSteps.{checked_is, compares_is, job_is, settings_answer, usage_is}
use Rattle.aide_site.proofs.Endings.{broken, ends_unfailed, hindered, never_true, no_failure_never_rose, none_starts, of_both, rose_later}
use Rattle.aide_site.proofs.Endings.{same_some, starved_for, true_is_not_false, whole_as}
use Rattle.aide_site.proofs.Existence.{answered}
use Rattle.aide_site.proofs.JobSettings.{ends_without}
use Rattle.aide_site.proofs.PutLemmas.{put_as, put_passed}
use Rattle.aide_words.specs.Job.{JobText}

-- ---- the answer over what stands at both paths

-- the line of a fault that is the answer
abbrev right_line : Named → RunFault → List ℕ
right_line named (Database fault) = database_line Compared fault
right_line named fault = run_fault_line Compared named.old_path named.new_path fault

-- the status of a fault that is the answer
abbrev right_status : RunFault → ℕ
right_status (Database fault) = 24
right_status fault = fault_status fault

-- the answer of a run over what stands at both sides
abbrev pub answer_by : Named → Result Report RunFault → Answer
answer_by named (Ok report) = answer_of_run (Ok report)
answer_by named (Err fault) = refused (right_line named fault) (right_status fault)

given_answer : (named : Named) (run : Result Report DbFault) → answer_of_run run ≡ answer_by named (run_answer run)
given_answer named (Ok report) = refl
given_answer named (Err fault) = refl

-- an answer over what stands at both paths is that of a run
pub compared_by : (options : Options) (named : Named) (old new : Option (List ℕ)) (a : Answer)
    → IsCompared options named old new a
    → (r : Result Report RunFault) × RunsOver limits (asked_by options named) old new r × (a ≡ answer_by named r)
compared_by options named None new a is = (Err (Open Old), refl, is)
compared_by options named (Some old) None a is = elim is [
  | inl refusal ↦ (Err (Open New), inl (refusal.0, refl), refusal.1)
  | inr bad ↦ (Err (Database bad.0), inr (bad.0, bad.1, refl), bad.2)
]
compared_by options named (Some old) (Some new) a is =
    (run_answer is.0, (is.0, is.1, refl), is.2 ∙ given_answer named is.0)

-- ---- how a session ends

early_part : (named : Named) (r : Result Report RunFault) (c d : Option (List ℕ)) → SendsFront r c d
    → SendsPart (answer_by named r).output c d
early_part named (Ok report) c d front = front
early_part named (Err fault) c d front = none_starts [] c d front

-- a run stops for the fault that is the answer, or for one that hindered it
by_stop : (r : Result Report RunFault) (hindered : RunFault → Type 0) (fault : RunFault) (P : Type 0)
    → (r ≡ Err fault → P) → (hindered fault → P) → StopsFor r hindered fault → P
by_stop (Ok report) hindered fault P f g stops = g stops
by_stop (Err right) hindered fault P f g stops = elim stops [ inl is ↦ f (ap (λ (x : RunFault). Err x) (sym is)) | inr h ↦ g h ]

module _ (s : SessionView) (named : Named) (status : ℕ) where
  abbrev Failed : Type 0
  Failed = HasFailed s.is_reliable s.site_before s.site_after

  abbrev Sent : Type 0
  Sent = Rose s.out_before s.out_after

  abbrev EndsWith : Answer → Type 0
  EndsWith a = Ends a named status s.sinks Failed Sent

  -- an answer that is a line and a status
  refused_ends : (a : Answer) (line : List ℕ) (code : ℕ) → a ≡ refused line code → status ≡ code
      → Appends s.sinks.out_old s.sinks.out_new [] → Puts line s.sinks → EndsWith a
  refused_ends a line code is status_is none put =
      whole_as texts a (of_whose named named) status s.sinks (of_sites Failed ⊥) Sent (refused line code) is
      (record { status_is = status_is; output = none; put = put })

  -- what is said of an accepted configuration has gone out
  told_ends : (says : Says) (c : Configured) (a : Answer) (is_flushed : Bool) (k l : ℕ) → a ≡ checked_by says c → status ≡ 0
      → IsTold says c s.sinks.out_old s.sinks.out_new is_flushed k l → Puts [] s.sinks → EndsWith a
  told_ends None c a is_flushed k l is status_is told put = refused_ends a [] 0 is status_is told.0 put
  told_ends (Some says) c a is_flushed k l is status_is told put =
      whole_as texts a (of_whose named named) status s.sinks (of_sites Failed ⊥) Sent (checked_by (Some says) c) is
      (record { status_is = status_is; output = told.0; put = put })

  -- it could not be written
  untold_ends : (says : Says) (c : Configured) (a : Answer) (k l : ℕ) → a ≡ checked_by says c → status ≡ 18
      → IsUntold says c s.sinks.out_old s.sinks.out_new k l → Sent → Puts write_line s.sinks → EndsWith a
  untold_ends None c a k l is status_is untold sent put = absurd untold
  untold_ends (Some says) c a k l is status_is untold sent put =
      broken texts a (of_whose named named) status s.sinks (of_sites Failed ⊥) Sent
      (subst (λ (x : Answer). SendsPart x.output s.sinks.out_old s.sinks.out_new) (sym is) untold.0) unwritten status_is sent put

  module _ (count : ℕ) (later : s.site_before ≤ count) where
    abbrev rose : Type 0
    rose = Rose count s.site_after

    failed_later : (s.is_reliable ≡ false) × rose → Failed
    failed_later failed = (failed.0, rose_later s.site_before count s.site_after later failed.1)

    -- a fault of a database that is the answer
    right_database : (side : Side) (line : ℕ) (kind : DbFaultKind) (r : Result Report RunFault)
        → r ≡ Err (Database (record { side = side; line = line; kind = kind }))
        → MeansOfPair s.files named s.is_reliable s.course rose Sent (Database (record { side = side; line = line; kind = kind }))
        → SendsFront r s.sinks.out_old s.sinks.out_new → status ≡ kind_status kind
        → Puts (kind_line Compared (record { side = side; line = line; kind = kind }) kind) s.sinks → EndsWith (answer_by named r)
    right_database side line db.Read r is means front status_is put =
        broken texts (answer_by named r) (of_whose named named) status s.sinks (of_sites Failed ⊥) Sent
        (early_part named r s.sinks.out_old s.sinks.out_new front) (unread Compared (record { side = side; line = line; kind = db.Read }))
        status_is (refl, failed_later (never_true s.is_reliable (λ reliable. means.reliable reliable refl), means.cause.0 refl)) put
    right_database side line db.Memory r is means front status_is put = absurd (true_is_not_false means.cause.2)
    right_database side line kind r is means front status_is put =
        refused_ends (answer_by named r) _ _ (ap (answer_by named) is) status_is
        (subst (λ (x : Result Report RunFault). SendsFront x s.sinks.out_old s.sinks.out_new) is front) put

    right_ends : (fault : RunFault) (r : Result Report RunFault) → r ≡ Err fault
        → MeansOfPair s.files named s.is_reliable s.course rose Sent fault → SendsFront r s.sinks.out_old s.sinks.out_new
        → status ≡ fault_status fault → Puts (run_fault_line Compared named.old_path named.new_path fault) s.sinks
        → EndsWith (answer_by named r)
    right_ends (Database fault) r is means front status_is put =
        right_database fault.side fault.line fault.kind r is means front status_is put
    right_ends fault r is means front status_is put =
        refused_ends (answer_by named r) _ _ (ap (answer_by named) is) status_is
        (subst (λ (x : Result Report RunFault). SendsFront x s.sinks.out_old s.sinks.out_new) is front) put

    -- a comparison
    of_result : (options : Options) (result : Result Outcome RunFault) (old new : Option (List ℕ)) (a : Answer)
        → s.files named.old_path ≡ Some old → s.files named.new_path ≡ Some new → IsCompared options named old new a
        → ComparesPair s.files s.is_reliable named options result s.course s.sinks.out_old s.sinks.out_new rose Sent
        → status ≡ compared_status result → Puts (compared_line named result) s.sinks → EndsWith a
    of_result options result old new a is_old is_new is compares status_is put =
        let by_run = compared_by options named old new a is in
        subst EndsWith (sym by_run.2)
        (go result by_run.0 compares.fault (compares.over old new is_old is_new by_run.0 by_run.1) status_is put)
      where
        go : (result : Result Outcome RunFault) (r : Result Report RunFault)
            → IfErr result (MeansOfPair s.files named s.is_reliable s.course rose Sent)
            → EndsOver r (IsHindered old new rose Sent) result s.sinks.out_old s.sinks.out_new
            → status ≡ compared_status result → Puts (compared_line named result) s.sinks → EndsWith (answer_by named r)
        go (Ok outcome) (Ok report) means over status_is put = search rules
        go (Ok outcome) (Err fault) means over status_is put = absurd over
        go (Err fault) r means over status_is put =
            by_stop r (IsHindered old new rose Sent) fault (EndsWith (answer_by named r))
            (λ is. right_ends fault r is means over.1 status_is put)
            (λ why. hindered texts (answer_by named r) (of_whose named named) status s.sinks (of_sites Failed ⊥) Sent
            (early_part named r s.sinks.out_old s.sinks.out_new over.1) Compared s.files s.is_reliable s.course rose Sent fault old new
            failed_later (λ sent. sent) is_old is_new status_is put means why)
            over.0

module _ (says : Says) (s : SessionView) (wanted : Option JobText) (status : ℕ) (named : Named) (a : Answer)
    (is : IsAnswerBy says s.files wanted named a) where
  -- the answer to a job that is asked for
  answer_to : (job : JobText) → wanted ≡ Some job → IsJobAnswerBy says s.files job named a
  answer_to job asked = job_is says s.files wanted job named a asked is

  -- the comparison of the answer, and its paths
  answer_compares : (paths : Named) (asks : AsksToCompare s.files wanted paths) → Compares s.files asks.settings named a
  answer_compares paths asks =
      compares_is says s.files s.files asks.asks.job asks.settings named a refl asks.asks.compare_is asks.asks.has
      (answer_to asks.asks.job asks.asks.job_is)

  same_paths : (paths : Named) (asks : AsksToCompare s.files wanted paths) → paths ≡ named
  same_paths paths asks =
      let compares = answer_compares paths asks in
      let old = same_some asks.settings.old_path paths.old_path named.old_path asks.old_is compares.old_is in
      let new = same_some asks.settings.new_path paths.new_path named.new_path asks.new_is compares.new_is in
      let config = asks.asks.config_is ∙ sym (answer_to asks.asks.job asks.asks.job_is).config_is in
      λ i. record { config = config i; old_path = old i; new_path = new i }

  module _ (count : ℕ) (later : s.site_before ≤ count) where
    of_closing : (closing : Closing) (paths : Named)
        → ClosingCause s.files s.is_reliable wanted paths closing (Rose count s.site_after) (Rose s.out_before s.out_after)
        → status ≡ closing_status closing
        → ClosingDoes says s.files s.is_reliable paths closing s.course s.sinks.out_old s.sinks.out_new (Rose count s.site_after)
        (Rose s.out_before s.out_after)
        → Puts (closing_line says paths closing) s.sinks → EndsWith s named status a
    of_closing no_job paths none status_is does put =
        refused_ends s named status a (usage_by says) 15 (usage_is says s.files wanted named a none is) status_is does.0 put
    of_closing (no_settings why) paths cause status_is does put = elim cause [
      | inl memory ↦ starved_for texts a (of_whose named named) status s.sinks (of_sites (Failed s named status) ⊥) (Sent s named status)
          paths.config why memory status_is does.0 put
      | inr because ↦
          let job = because.0.job in
          let answer = answer_to job because.0.job_is in
          let told = put_as _ _ (ap (λ path. no_settings_line path why) (because.0.config_is ∙ sym answer.config_is)) put in
          ends_without texts a (of_whose named named) status s.sinks (of_sites (Failed s named status) ⊥) (Sent s named status) s.files
          s.is_reliable job (Rose count s.site_after) why answer.settings (none_starts a.output s.sinks.out_old s.sinks.out_new does.0)
          because.1 answer.are status_is does.0 told
          (λ same. refused_ends s named status a (no_settings_line named.config why) (no_settings_status why)
          (settings_answer says s.files job job.compare (Err why) named a answer refl same) status_is does.0 told)
          (failed_later s named status count later)
    ]
    of_closing (good_config c) paths read status_is does put =
        told_ends s named status says c a s.course.is_flushed s.course.flushes_before s.course.flushes_after
        (checked_is says s.files read.job c named a read.compare_is read.has (answer_to read.job read.job_is)) status_is does.0 put
    of_closing (untold_config c) paths cause status_is does put =
        let read = cause.0 in
        untold_ends s named status says c a s.course.flushes_before s.course.flushes_after
        (checked_is says s.files read.job c named a read.compare_is read.has (answer_to read.job read.job_is)) status_is does.0 cause.1 put
    of_closing (compared options result) paths cause status_is does put =
        let compares = answer_compares paths cause.0 in
        let same = same_paths paths cause.0 in
        of_result s named status count later options result compares.old_file compares.new_file a compares.old_told compares.new_told
        (subst (λ (o : Options). IsCompared o named compares.old_file compares.new_file a) cause.1 compares.then_is)
        (subst (λ (n : Named). ComparesPair s.files s.is_reliable n options result s.course s.sinks.out_old s.sinks.out_new
        (Rose count s.site_after) (Rose s.out_before s.out_after)) same does)
        status_is (subst (λ (n : Named). Puts (compared_line n result) s.sinks) same put)

  -- a session ends with the answer to its arguments, or is kept from it
  pub closing_ends : ClosesFor says wanted status s → EndsWith s named status a
  closing_ends closes =
      of_closing closes.count closes.later closes.closing closes.named closes.cause closes.status_is closes.does closes.put

-- ---- once the lines are passed on

abbrev pub passed : SessionView → Option (List ℕ) → ℕ → Bool → SessionView
passed s bytes count is_passed_on =
    record s { sinks = record s.sinks { err_new = bytes; err_after = count }; is_passed_on = is_passed_on }

-- a session that closes is one that keeps to its answer
pub session_of : (says : Says) (wanted : Option JobText) (status : ℕ) (s : SessionView) (bytes : Option (List ℕ)) (count : ℕ)
    (is_passed_on : Bool)
    → Keeps s.sinks.err_new bytes → s.sinks.err_after ≤ count → (HasNoFailure s.sinks.err_after count → is_passed_on ≡ true)
    → s.lookups_after ≤ one_more s.lookups_before → ClosesFor says wanted status s
    → IsSessionBy says wanted status (passed s bytes count is_passed_on)
session_of says wanted status s bytes count is_passed_on kept more flushed lookups closes =
    let now = passed s bytes count is_passed_on in
    let put = put_passed (closing_line says closes.named closes.closing) _ _ _ _ _ _ kept more closes.put in
    let before = closes.put.never_falls in
    let closed : ClosesFor says wanted status now = record {
      closing = closes.closing;
      named = closes.named;
      count = closes.count;
      later = closes.later;
      cause = closes.cause;
      status_is = closes.status_is;
      does = closes.does;
      opens_some = closes.opens_some;
      put = put;
    } in
    record {
      ends = λ named a is. closing_ends says now wanted status named a is closed;
      exact = λ named a is unfailed_site unfailed_out.
          ends_unfailed texts a (of_whose named named) status now.sinks _ _
          (of_both _ ⊥ (λ failed. no_failure_never_rose _ _ unfailed_site failed.1) (λ none. none)) (no_failure_never_rose _ _ unfailed_out)
          (closing_ends says now wanted status named a is closed);
      reliable = λ named a is reliable unfailed_out.
          ends_unfailed texts a (of_whose named named) status now.sinks _ _
          (of_both _ ⊥ (λ failed. true_is_not_false (sym reliable ∙ failed.0)) (λ none. none)) (no_failure_never_rose _ _ unfailed_out)
          (closing_ends says now wanted status named a is closed);
      passed_on = λ unfailed. flushed (omega (arith, before, more, unfailed.0), unfailed.1);
      answered = answered says s.files wanted;
      closes = closed;
      lookups = lookups;
    }
