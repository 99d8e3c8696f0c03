-- A comparison by lines ends a session with its answer, or is kept from it.
use Rattle.std.proofs.Common.{◌≡◌, ℕ, ◌≤◌, List, [], Option, Some, None, refl, sym, ap, Ok, Err, inl, inr}
use Rattle.std.proofs.Common.{rules}
use Rattle.std.specs.Prelude.{Result}
use Rattle.std.specs.Io.KnownBytes.{Appends}
use Rattle.std.proofs.Math.Path.{subst}
use Rattle.std.proofs.lemmas.List.{append-nil}
use Rattle.aide_conf.specs.Settings.{Configured}
use Rattle.aide_db.proofs.Laws.{no_sound_text_has_a_fault}
use Rattle.aide_db.specs.Database.{IsSound}
use Rattle.aide_db.specs.declared.fault.DbFault.{DbFault}
use Rattle.aide_db.specs.declared.side.Side.TheVariants.{Old, New}
use Rattle.aide_merge.specs.Asked.{Asked}
use Rattle.aide_text.specs.Failures.{Rose}
use Rattle.aide_merge.specs.Outcomes.{outcome_over}
use Rattle.aide_merge.specs.RightAnswer.{IsHindered, Report, RunsBy, RunsOverBy, run_answer}
use Rattle.aide_text.specs.Sent.{SendsPart}
use Rattle.aide_merge.specs.declared.outcome.Outcome.{Outcome}
use Rattle.aide_merge.specs.declared.run_fault.RunFault.{RunFault}
use Rattle.aide_merge.specs.declared.run_fault.RunFault.TheVariants.{Database, Write}
use Rattle.aide_site.specs.Answer.{Named, asked_by, limits}
use Rattle.aide_line_session.specs.LineAnswer.{ComparesForLines}
use Rattle.aide_line_session.specs.LineAnswer.{BeginsOverTexts, LineAnswer, HasWritten, LineOutput, HasBegun, all_lines, line_answer}
use Rattle.aide_line_session.specs.LineAnswer.{lines_written, no_line, pair_fault_line, pair_fault_status}
use Rattle.aide_line_session.specs.LineAnswer.{lines_at_fault, start_of_lines, trusted_of}
use Rattle.aide_line_session.specs.LineEnds.{ComparesPairs, LineView, WholeLines, compared_line, compared_status}
use Rattle.aide_site.specs.Closing.{MeansOfPair}
use Rattle.aide_site.specs.Ends.{EndsOf, HasFailed, Puts, Sinks, of_sites, of_whose}
use Rattle.aide_site.specs.Lines.{outcome_lines}
use Rattle.aide_site.proofs.Endings.{hindered, rose_later}
use Rattle.aide_site.specs.declared.whose.Whose.{Whose}
use Rattle.aide_site.specs.declared.whose.Whose.TheVariants as whose
use Rattle.aide_line_run.specs.BeforeFault.{AreBeforeFaults, FourTexts}
use Rattle.aide_line_run.specs.Lines.{lines_of_texts}
use Rattle.aide_line_run.specs.RunEnds.{AreAllSound, CutsFronts, CutsLines, RunsLines, SendsWholeOf, StopsForPair, answer_by}
use Rattle.aide_line_run.specs.RunEnds.{changes_between}
use Rattle.aide_line_run.specs.Listed.{ListRead, leaves_between}
use Rattle.aide_line_run.proofs.WrittenLaws.{begins_what_is_written, begins_with_nothing}
use Rattle.aide_line_run.specs.Pairs.{OfEach}
use Rattle.aide_line_run.specs.declared.pair_fault.PairFault.{PairFault}
use Rattle.aide_line_run.specs.declared.pair_fault.PairFault.TheVariants.{Compared, Trusted}
use Rattle.aide_words.specs.LineJob.{LineJobText}

-- ---- what has gone out

-- nothing is a beginning of anything
pub none_starts : (sent : LineOutput) (before after : Option (List ℕ)) → Appends before after [] → HasBegun sent before after
none_starts (all_lines text) before after none = record { front = []; rest = text; whole = refl; bytes = none }
none_starts (start_of_lines list asked trusted texts) before after none = record {
  cut = begins_with_nothing (leaves_between list texts.old texts.new) asked trusted (changes_between texts.old texts.new)
      (changes_between texts.trusted_old texts.trusted_new) before after none;
  early = λ fronts are. record { front = []; rest = _; whole = refl; bytes = none };
}

-- what has gone out is a beginning of itself
goes_then_starts : (sent : LineOutput) (before after : Option (List ℕ)) → HasWritten sent before after
    → HasBegun sent before after
goes_then_starts (all_lines text) before after all =
    record { front = text; rest = []; whole = sym (append-nil text); bytes = all }
goes_then_starts (start_of_lines list asked trusted texts) before after part = part

-- ---- a run that is kept from its answer

-- what it means that the site of a pair has failed
abbrev pub sites_of : ℕ → LineView → Whose → Type 0
sites_of before v =
    of_sites (HasFailed v.is_reliable before v.site_after) (HasFailed v.trusted_reliable v.trusted_before v.trusted_after)

-- how a session ends, by its answer
abbrev pub EndsFor : LineAnswer → (named trusted : Named) → (status before : ℕ) → LineView → Type 0
EndsFor a named trusted status before v =
    EndsOf lines_written a (of_whose named trusted) status v.sinks (sites_of before v) (Rose v.out_before v.out_after)

module _ (a : LineAnswer) (named trusted : Named) (v : LineView) (before count : ℕ) (more : before ≤ count)
    (begun : HasBegun a.output v.sinks.out_old v.sinks.out_new) where
  hindered_ends : (fault : PairFault) (old new trusted_old trusted_new : Option (List ℕ)) (status : ℕ)
      → v.files named.old_path ≡ Some old → v.files named.new_path ≡ Some new
      → v.trusted_files trusted.old_path ≡ Some trusted_old → v.trusted_files trusted.new_path ≡ Some trusted_new
      → status ≡ pair_fault_status fault
      → Puts (pair_fault_line named.old_path named.new_path trusted.old_path trusted.new_path fault) v.sinks
      → OfEach (MeansOfPair v.files named v.is_reliable v.course (Rose count v.site_after) (Rose v.out_before v.out_after))
      (MeansOfPair v.trusted_files trusted v.trusted_reliable v.trusted_course (Rose v.trusted_before v.trusted_after) ⊥) fault
      → OfEach (IsHindered old new (Rose count v.site_after) (Rose v.out_before v.out_after))
      (IsHindered trusted_old trusted_new (Rose v.trusted_before v.trusted_after) ⊥) fault
      → EndsFor a named trusted status before v
  hindered_ends (Compared fault) old new trusted_old trusted_new status told_old told_new told_trusted_old told_trusted_new is put means
      why =
      hindered lines_written a (of_whose named trusted) status v.sinks (sites_of before v) (Rose v.out_before v.out_after) begun
      whose.Compared v.files v.is_reliable v.course (Rose count v.site_after) (Rose v.out_before v.out_after) fault old new
      (λ failed. (failed.0, rose_later before count v.site_after more failed.1)) (λ sent. sent) told_old told_new is put means why
  hindered_ends (Trusted fault) old new trusted_old trusted_new status told_old told_new told_trusted_old told_trusted_new is put means
      why =
      hindered lines_written a (of_whose named trusted) status v.sinks (sites_of before v) (Rose v.out_before v.out_after) begun
      whose.Trusted v.trusted_files v.trusted_reliable v.trusted_course (Rose v.trusted_before v.trusted_after) ⊥ fault trusted_old
      trusted_new (λ failed. failed) (λ none. absurd none) told_trusted_old told_trusted_new is put means why

-- ---- what has gone out at a fault

-- a beginning of what is to be written has gone out, or this if the answer is a fault
abbrev SendsFront : LineOutput → Result Report PairFault → (before after : Option (List ℕ)) → Type 0
SendsFront sent (Ok report) before after = SendsPart report.text before after
SendsFront sent (Err fault) before after = HasWritten sent before after

none_front : (r : Result Report PairFault) (before after : Option (List ℕ)) → Appends before after [] → SendsFront no_line r before after
none_front (Ok report) before after none = record { front = []; rest = report.text; whole = refl; bytes = none }
none_front (Err fault) before after none = none

ok_is_no_fault : (outcome : Outcome) (fault : RunFault) → Ok outcome ≡ Err fault → ⊥
ok_is_no_fault outcome fault e = cc

-- two texts of which the answer is an outcome are both sound
sound_run : (over : List ℕ → List ℕ → Outcome) (old new : List ℕ) (outcome : Outcome) (run : Result Outcome DbFault)
    → RunsBy limits over old new run → Ok outcome ≡ run_answer run → IsSound limits old × IsSound limits new
sound_run over old new outcome (Ok other) is same = (is.0, is.1)
sound_run over old new outcome (Err fault) is same = absurd (ok_is_no_fault outcome (Database fault) same)

sound_pair : (over : List ℕ → List ℕ → Outcome) (old new : List ℕ) (outcome : Outcome)
    → RunsOverBy limits over (Some old) (Some new) (Ok outcome) → IsSound limits old × IsSound limits new
sound_pair over old new outcome runs = sound_run over old new outcome runs.0 runs.1 runs.2

-- two texts of which the answer is a fault are not
unsound_run : (over : List ℕ → List ℕ → Outcome) (old new : List ℕ) (fault : RunFault) (run : Result Outcome DbFault)
    → RunsBy limits over old new run → Err fault ≡ run_answer run → IsSound limits old → IsSound limits new → ⊥
unsound_run over old new fault (Ok other) is same sound_old sound_new = absurd (ok_is_no_fault other fault (sym same))
unsound_run over old new fault (Err first) is same sound_old sound_new = elim is [
  | inl of_old ↦ no_sound_text_has_a_fault limits old first.line first.kind of_old.1 sound_old
  | inr of_new ↦ no_sound_text_has_a_fault limits new first.line first.kind of_new.1.1 sound_new
]

unsound_pair : (over : List ℕ → List ℕ → Outcome) (old new : List ℕ) (fault : RunFault)
    → RunsOverBy limits over (Some old) (Some new) (Err fault) → IsSound limits old → IsSound limits new → ⊥
unsound_pair over old new fault runs = unsound_run over old new fault runs.0 runs.1 runs.2

module _ (list : ListRead) (wish trusted_wish : Asked) (texts : FourTexts) (before after : Option (List ℕ)) where
  abbrev AllSound : Type 0
  AllSound = AreAllSound limits texts.old texts.new texts.trusted_old texts.trusted_new

  abbrev all_texts : Report
  all_texts = lines_of_texts list wish trusted_wish texts.old texts.new texts.trusted_old texts.trusted_new

  abbrev Cut : PairFault → Type 0
  Cut fault = CutsLines limits list wish trusted_wish texts.old texts.new texts.trusted_old texts.trusted_new before after fault

  abbrev Early : PairFault → Type 0
  Early fault = (fronts : FourTexts) → AreBeforeFaults limits texts fronts
      → CutsFronts limits list wish trusted_wish texts fronts before after fault

  sound_cut : (fault : PairFault) → AllSound → Cut fault → SendsPart all_texts.text before after
  sound_cut (Compared (Write written)) sound cut = cut.0 sound
  sound_cut fault sound cut =
      begins_what_is_written limits list wish trusted_wish texts.old texts.new texts.trusted_old texts.trusted_new sound before after cut

  unsound_cut : (fault : PairFault) → (AllSound → ⊥) → Cut fault → Early fault
      → BeginsOverTexts list wish trusted_wish texts before after
  unsound_cut (Compared (Write written)) unsound cut early =
      record { cut = cut.1 unsound; early = λ fronts are. early fronts are unsound }
  unsound_cut fault unsound cut early = record { cut = cut; early = early }

  front_by : (compared trusted : Result Outcome RunFault) (r : Result Report PairFault) (fault : PairFault)
      → RunsOverBy limits (outcome_over wish.options) (Some texts.old) (Some texts.new) compared
      → RunsOverBy limits (outcome_over trusted_wish.options) (Some texts.trusted_old) (Some texts.trusted_new) trusted
      → answer_by compared trusted (Some all_texts) r → Cut fault → Early fault
      → SendsFront (start_of_lines list wish trusted_wish texts) r before after
  front_by (Err first) trusted r fault runs trusted_runs is cut early =
      subst (λ (x : Result Report PairFault). SendsFront (start_of_lines list wish trusted_wish texts) x before after) (sym is)
      (unsound_cut fault (λ sound. unsound_pair (outcome_over wish.options) texts.old texts.new first runs sound.of_old sound.of_new)
      cut early)
  front_by (Ok outcome) (Err first) r fault runs trusted_runs is cut early =
      subst (λ (x : Result Report PairFault). SendsFront (start_of_lines list wish trusted_wish texts) x before after) (sym is)
      (unsound_cut fault (λ sound. unsound_pair (outcome_over trusted_wish.options) texts.trusted_old texts.trusted_new first
      trusted_runs sound.of_trusted_old sound.of_trusted_new) cut early)
  front_by (Ok outcome) (Ok other) r fault runs trusted_runs is cut early = search (rules, sound_pair, sound_cut)

-- ---- a comparison and its answer

module _ (sent : LineOutput) (named trusted : Named) (s : Sinks) where
  well : (r : Result Report PairFault) (outcome : Outcome) (status : ℕ) → status ≡ compared_status (Ok outcome)
      → Puts (outcome_lines outcome) s → SendsWholeOf r outcome s.out_old s.out_new
      → WholeLines (line_answer sent named trusted r) status s
  well (Ok report) outcome status is put all = search rules
  well (Err fault) outcome status is put all = absurd all

  front : (r : Result Report PairFault) → SendsFront sent r s.out_old s.out_new
      → HasBegun (line_answer sent named trusted r).output s.out_old s.out_new
  front (Ok report) part = part
  front (Err fault) part = goes_then_starts sent s.out_old s.out_new part

  right : (r : Result Report PairFault) (fault : PairFault) (status : ℕ) → status ≡ pair_fault_status fault
      → Puts (pair_fault_line named.old_path named.new_path trusted.old_path trusted.new_path fault) s
      → SendsFront sent r s.out_old s.out_new → r ≡ Err fault
      → WholeLines (line_answer sent named trusted r) status s
  right r fault status is put part same = search rules

  -- a run stops for the fault that is the answer, or for one that hindered it
  by_stop : (r : Result Report PairFault) (hindered : PairFault → Type 0) (fault : PairFault) (P : Type 0)
      → (r ≡ Err fault → P) → (hindered fault → P) → StopsForPair r hindered fault → P
  by_stop (Ok report) hindered fault P f g stops = g stops
  by_stop (Err other) hindered fault P f g stops = elim stops [ inl is ↦ f (ap (λ (x : PairFault). Err x) (sym is)) | inr h ↦ g h ]

module _ (job : LineJobText) (list : ListRead) (status before count : ℕ) (v : LineView) (s : Configured) (named : Named)
    (more : before ≤ count) (a : LineAnswer) (is : ComparesForLines v.files v.trusted_files job list s named a) where
  abbrev sent : LineOutput
  sent = lines_at_fault list (asked_by s.options named) (asked_by s.options (trusted_of job)) is.old_file is.new_file is.trusted_old_file
      is.trusted_new_file

  -- at a fault of four files
  front_of : (fault : PairFault) (old new trusted_old trusted_new : Option (List ℕ)) (r : Result Report PairFault)
      → ComparesPairs list named (trusted_of job) s.options (Err fault) (Rose count v.site_after) v
      → v.files named.old_path ≡ Some old → v.files named.new_path ≡ Some new
      → v.trusted_files job.trusted_old ≡ Some trusted_old → v.trusted_files job.trusted_new ≡ Some trusted_new
      → RunsLines limits list (asked_by s.options named) (asked_by s.options (trusted_of job)) old new trusted_old trusted_new r
      → SendsFront (lines_at_fault list (asked_by s.options named) (asked_by s.options (trusted_of job)) old new trusted_old trusted_new) r
      v.sinks.out_old v.sinks.out_new
  front_of fault None new trusted_old trusted_new r compares is_old is_new is_trusted_old is_trusted_new runs =
      none_front r v.sinks.out_old v.sinks.out_new (compares.missing Old is_old)
  front_of fault (Some old) None trusted_old trusted_new r compares is_old is_new is_trusted_old is_trusted_new runs =
      none_front r v.sinks.out_old v.sinks.out_new (compares.missing New is_new)
  front_of fault (Some old) (Some new) None trusted_new r compares is_old is_new is_trusted_old is_trusted_new runs =
      none_front r v.sinks.out_old v.sinks.out_new (compares.trusted_missing Old is_trusted_old)
  front_of fault (Some old) (Some new) (Some trusted_old) None r compares is_old is_new is_trusted_old is_trusted_new runs =
      none_front r v.sinks.out_old v.sinks.out_new (compares.trusted_missing New is_trusted_new)
  front_of fault (Some old) (Some new) (Some trusted_old) (Some trusted_new) r compares is_old is_new is_trusted_old is_trusted_new runs =
      let texts : FourTexts = record { old = old; new = new; trusted_old = trusted_old; trusted_new = trusted_new } in
      front_by list (asked_by s.options named) (asked_by s.options (trusted_of job)) texts v.sinks.out_old v.sinks.out_new
      runs.compared runs.trusted r fault runs.compared_runs runs.trusted_runs runs.answer
      (compares.cut old new trusted_old trusted_new is_old is_new is_trusted_old is_trusted_new)
      (λ fronts are. compares.early texts fronts is_old is_new is_trusted_old is_trusted_new are)

  pub compared_ends : (result : Result Outcome PairFault)
      → ComparesPairs list named (trusted_of job) s.options result (Rose count v.site_after) v
      → status ≡ compared_status result → Puts (compared_line named (trusted_of job) result) v.sinks
      → EndsFor (line_answer sent named (trusted_of job) is.run) named (trusted_of job) status before v
  compared_ends (Ok outcome) compares status_is put =
      inl (well sent named (trusted_of job) v.sinks is.run outcome status status_is put
      (compares.over is.old_file is.new_file is.trusted_old_file is.trusted_new_file is.old_told is.new_told is.trusted_old_told
      is.trusted_new_told is.run is.runs))
  compared_ends (Err fault) compares status_is put =
      let stops = compares.over is.old_file is.new_file is.trusted_old_file is.trusted_new_file is.old_told is.new_told
      is.trusted_old_told is.trusted_new_told is.run is.runs in
      let part = front_of fault is.old_file is.new_file is.trusted_old_file is.trusted_new_file is.run compares is.old_told is.new_told
      is.trusted_old_told is.trusted_new_told is.runs in
      by_stop sent named (trusted_of job) v.sinks is.run
      (OfEach (IsHindered is.old_file is.new_file (Rose count v.site_after) (Rose v.out_before v.out_after))
      (IsHindered is.trusted_old_file is.trusted_new_file (Rose v.trusted_before v.trusted_after) ⊥)) fault
      (EndsFor (line_answer sent named (trusted_of job) is.run) named (trusted_of job) status before v)
      (λ same. inl (right sent named (trusted_of job) v.sinks is.run fault status status_is put part same))
      (λ hindered. hindered_ends (line_answer sent named (trusted_of job) is.run) named (trusted_of job) v before count more
      (front sent named (trusted_of job) v.sinks is.run part) fault is.old_file is.new_file is.trusted_old_file is.trusted_new_file status
      is.old_told is.new_told is.trusted_old_told is.trusted_new_told status_is put compares.fault hindered)
      stops
