-- The parts of a session of lines, over what is seen of both sites.
use Rattle.std.proofs.Common.{◌≡◌, ◌∙◌, ℕ, ◌≤◌, List, Option, Some, None, refl, sym, ap, Bool, true, Ok, Err, inl, inr}
use Rattle.std.proofs.Common.{arith, rules}
use Rattle.std.specs.Prelude.{Result, IfErr, IfOk, ⊤}
use Rattle.std.proofs.Math.Path.{subst}
use Rattle.std.proofs.lemmas.Result.{IfErr-weaker, on_ok_weaker}
use Rattle.aide_conf.specs.declared.options.Options.{Options}
use Rattle.aide_db.specs.DeskView.{DeskView}
use Rattle.aide_db.specs.Side.{by_side}
use Rattle.aide_db.specs.declared.side.Side.{Side}
use Rattle.aide_db.specs.declared.side.Side.TheVariants.{Old, New}
use Rattle.aide_db.specs.declared.sources.Sources.{Ghosts as AnySources}
use Rattle.aide_merge.specs.Asked.{Asked}
use Rattle.aide_text.specs.Failures.{Rose}
use Rattle.aide_merge.specs.Seen.{seen, sink_seen}
use Rattle.aide_merge.specs.declared.outcome.Outcome.{Outcome}
use Rattle.aide_merge.specs.declared.run_fault.RunFault.{RunFault}
use Rattle.aide_site.specs.Answer.{Named, asked_by, limits}
use Rattle.aide_line_session.specs.LineEnds.{LineView, ClosesCompared, ComparesPairs, EarlyStop, EndsLinesBy, StopCause}
use Rattle.aide_line_session.specs.LineEnds.{list_refused, no_settings}
use Rattle.aide_line_session.specs.LineSession.{line_view}
use Rattle.aide_site.specs.Closing.{Course, MeansOfPair}
use Rattle.aide_site.specs.Files.{Files}
use Rattle.aide_site.specs.JobSettings.{NoSettingsCause, comparison_of}
use Rattle.aide_site.specs.declared.job_config.NoSettings.{NoSettings}
use Rattle.aide_site.specs.declared.job_config.NoSettings.TheVariants.{Memory, Unread, TooLarge, Refused}
use Rattle.aide_words.specs.Job.{JobText}
use Rattle.aide_site.specs.Pointing.{KeepsFiles}
use Rattle.aide_site.specs.Session.{view_between}
use Rattle.aide_site.specs.Trusted.{trusted_at}
use Rattle.aide_site.specs.code.Parts.{IsPointed, named_by}
use Rattle.aide_site.specs.code.Config.{OpensOneFile}
use Rattle.aide_site.proofs.PointedLemmas.{means_of, pointed_tells}
use Rattle.aide_line_session.proofs.Causes.{caused_of}
use Rattle.aide_site.proofs.Endings.{rose_later}
use Rattle.aide_text.specs.declared.sink.Sink.{Ghosts as AnySink}
use Rattle.aide_line_run.specs.Lines.{AreAllLines}
use Rattle.aide_line_run.specs.RunEnds.{CutsFronts, CutsLines, IsFaultOfPair, RunsLines}
use Rattle.aide_line_run.specs.Listed.{ListRead}
use Rattle.aide_line_run.specs.PairSeen.{PairSeen, pair_seen}
use Rattle.aide_line_run.specs.Pairs.{OfEach}
use Rattle.aide_line_run.specs.LinesRun.{IsLinesRun}
use Rattle.aide_line_run.specs.declared.pair_fault.PairFault.{PairFault}
use Rattle.aide_line_run.specs.declared.pair_fault.PairFault.TheVariants.{Compared, Trusted}
use Rattle.aide_words.specs.LineJob.{LineJobText}

-- the same for the site of a trusted pair
pub trusted_later : (files later : Files) (wish : Asked) (bytes_of : Side → Option (List ℕ)) (is_missing : Side → Bool)
    → later ≡ files → IsPointed (trusted_at files) wish bytes_of is_missing → IsPointed (trusted_at later) wish bytes_of is_missing
trusted_later files later wish bytes_of is_missing same pointed =
    subst (λ (f : Files). IsPointed (trusted_at f) wish bytes_of is_missing) (sym same) pointed

-- the same paths with equal options ask for the same
pub same_wish : (config : List ℕ) (wish : Asked) (options : Options) → wish.options ≡ options
    → asked_by options (named_by config wish) ≡ wish
same_wish config wish options same = λ i. record { options = sym same i; old_path = wish.old_path; new_path = wish.new_path }

-- ---- a run over sites that are pointed at their paths

module _ (files trusted_files_told : Files) (p q : PairSeen) (out : Type 0) (config : List ℕ) (flushes_before flushes_after : ℕ)
    (is_flushed : Bool) where
  abbrev course_seen : PairSeen → Course
  course_seen r = record {
    opened_before = r.before.openings;
    opened_after = r.after.openings;
    gives_after = r.after.bytes_at;
    given_after = r.after.was_given;
    flushes_before = flushes_before;
    flushes_after = flushes_after;
    is_flushed = is_flushed;
  }

  pair_means : (known : Files) (r : PairSeen) (sink : Type 0) (fault : RunFault)
      → IsPointed known r.asked r.before.bytes_of r.before.is_missing → limits.line ≤ r.desk_before.room
      → IsFaultOfPair limits r sink fault
      → MeansOfPair known (named_by config r.asked) r.before.is_reliable (course_seen r) (Rose r.before.failures r.after.failures) sink
      fault
  pair_means known r sink fault pointed enough means =
      means_of known r.asked r.before.bytes_of r.before.is_missing pointed config r.before.is_reliable (course_seen r) _ sink fault
      (caused_of _ _ _ fault means.cause) means.right (means.memory enough) means.reliable means.refused means.not_given

  faults_mean : (fault : PairFault)
      → IsPointed files p.asked p.before.bytes_of p.before.is_missing
      → IsPointed trusted_files_told q.asked q.before.bytes_of q.before.is_missing
      → limits.line ≤ p.desk_before.room → limits.line ≤ q.desk_before.room
      → OfEach (IsFaultOfPair limits p out) (IsFaultOfPair limits q ⊥) fault
      → OfEach (MeansOfPair files (named_by config p.asked) p.before.is_reliable (course_seen p)
      (Rose p.before.failures p.after.failures) out)
      (MeansOfPair trusted_files_told (named_by config q.asked) q.before.is_reliable (course_seen q)
      (Rose q.before.failures q.after.failures) ⊥) fault
  faults_mean (Compared fault) pointed trusted_pointed enough trusted_enough means =
      pair_means files p out fault pointed enough means
  faults_mean (Trusted fault) pointed trusted_pointed enough trusted_enough means =
      pair_means trusted_files_told q ⊥ fault trusted_pointed trusted_enough means

-- a file that is not there is a side that is missing
missing_file : (files : Files) (wish : Asked) (bytes_of : Side → Option (List ℕ)) (is_missing : Side → Bool) (config : List ℕ) (P : Type 0)
    → IsPointed files wish bytes_of is_missing → ((side : Side) → is_missing side ≡ true → P) → (side : Side)
    → files (by_side (named_by config wish).old_path (named_by config wish).new_path side) ≡ Some None → P
missing_file files wish bytes_of is_missing config P pointed then Old gone = then Old (pointed.of_old None gone)
missing_file files wish bytes_of is_missing config P pointed then New gone = then New (pointed.of_new None gone)

-- before a fault of the trusted pair the compared texts are sound
sound_behind : (A B : Type 0) (result : Result Outcome PairFault) → (A → B)
    → IfErr result (OfEach (λ fault. ⊤) (λ fault. A)) → IfErr result (OfEach (λ fault. ⊤) (λ fault. B))
sound_behind A B (Ok outcome) f sound = tt
sound_behind A B (Err (Compared fault)) f sound = tt
sound_behind A B (Err (Trusted fault)) f sound = f sound

-- the comparison of both pairs is that of the files at their paths
pub compares_pairs : {S R W E : Type 0} (src : AnySources S R) (w : AnySink W) (e : AnySink E) (x y p q : S) (out_old out_new : W)
    (err_old err_new : E) (d f u v : DeskView) (list : ListRead) (wish trusted_wish : Asked) (config : List ℕ)
    (result : Result Outcome PairFault)
    → IsPointed (src.file_at x) wish (src.bytes_of x) (src.is_missing x)
    → IsPointed (trusted_at (src.file_at p)) trusted_wish (src.bytes_of p) (src.is_missing p)
    → trusted_wish.options ≡ wish.options → limits.line ≤ d.room → limits.line ≤ u.room
    → IsLinesRun limits list (pair_seen wish (seen src x) (seen src y) d f) (pair_seen trusted_wish (seen src p) (seen src q) u v)
    (sink_seen w out_old) (sink_seen w out_new) result
    → ComparesPairs list (named_by config wish) (named_by config trusted_wish) wish.options result (Rose (src.failures x) (src.failures y))
    (line_view (view_between src w e x y out_old out_new err_old err_new) (view_between src w e p q out_old out_new err_old err_new)
    (record { before = d.peak; after = f.peak; trusted_before = u.peak; trusted_after = v.peak }))
compares_pairs src w e x y p q out_old out_new err_old err_new d f u v list wish trusted_wish config result pointed trusted_pointed
    same enough trusted_enough ran =
    let tells = pointed_tells (src.file_at x) wish (src.bytes_of x) (src.is_missing x) pointed config in
    let trusted_tells = pointed_tells (trusted_at (src.file_at p)) trusted_wish (src.bytes_of p) (src.is_missing p) trusted_pointed
    config in
    let asks = same_wish config trusted_wish wish.options same in
    record {
      over = λ old new trusted_old trusted_new is_old is_new is_trusted_old is_trusted_new r runs.
          ran.over old new trusted_old trusted_new (pointed.of_old old is_old, pointed.of_new new is_new)
          (trusted_pointed.of_old trusted_old is_trusted_old, trusted_pointed.of_new trusted_new is_trusted_new) r
          (subst (λ (o : Asked). RunsLines limits list wish o old new trusted_old trusted_new r) asks runs);
      cut = λ old new trusted_old trusted_new has_old has_new has_trusted_old has_trusted_new.
          subst (λ (o : Asked). IfErr result (CutsLines limits list wish o old new trusted_old trusted_new (w.delivered out_old)
          (w.delivered out_new))) (sym asks)
          (ran.cut old new trusted_old trusted_new (tells Old old has_old, tells New new has_new)
          (trusted_tells Old trusted_old has_trusted_old, trusted_tells New trusted_new has_trusted_new));
      early = λ texts fronts has_old has_new has_trusted_old has_trusted_new are.
          subst (λ (o : Asked). IfErr result (CutsFronts limits list wish o texts fronts (w.delivered out_old) (w.delivered out_new)))
          (sym asks)
          (ran.early texts fronts (tells Old texts.old has_old, tells New texts.new has_new)
          (trusted_tells Old texts.trusted_old has_trusted_old, trusted_tells New texts.trusted_new has_trusted_new) are);
      unopened = ran.unopened;
      missing = missing_file (src.file_at x) wish (src.bytes_of x) (src.is_missing x) config _ pointed ran.missing;
      trusted_missing = missing_file (trusted_at (src.file_at p)) trusted_wish (src.bytes_of p) (src.is_missing p) config _ trusted_pointed
          ran.trusted_missing;
      sound = on_ok_weaker result (λ sound side text has. sound side text (tells side text has)) ran.sound;
      trusted_sound = on_ok_weaker result (λ sound side text has. sound side text (trusted_tells side text has)) ran.trusted_sound;
      behind = sound_behind _ _ result (λ sound side text has. sound side text (tells side text has)) ran.behind;
      consistent = subst (λ (o : Asked). IfOk result (λ outcome. AreAllLines list wish o outcome (w.delivered out_old)
          (w.delivered out_new)))
          (sym asks) ran.consistent;
      flushed = ran.flushed;
      flushes = ran.flushes;
      fault = IfErr-weaker result _ _ (λ fault means.
          faults_mean (src.file_at x) (trusted_at (src.file_at p)) (pair_seen wish (seen src x) (seen src y) d f)
          (pair_seen trusted_wish (seen src p) (seen src q) u v)
          (Rose (w.failures out_old) (w.failures out_new)) config (w.flushes out_old) (w.flushes out_new) (w.is_flushed out_new) fault
          pointed trusted_pointed enough trusted_enough means) ran.fault;
      opens = ran.opens;
      trusted_opens = ran.trusted_opens;
      opens_some = ran.leaves.opens_some;
      trusted_opens_some = ran.trusted_leaves.opens_some;
      peak = ran.leaves.peak;
      below = ran.leaves.below;
      bound = λ old new has_old has_new. ran.leaves.bound old new (tells Old old has_old, tells New new has_new);
      trusted_peak = ran.trusted_leaves.peak;
      trusted_below = ran.trusted_leaves.below;
      trusted_bound = λ old new has_old has_new.
          ran.trusted_leaves.bound old new (trusted_tells Old old has_old, trusted_tells New new has_new);
    }

-- ---- what is seen from an earlier moment

module _ {S R W E : Type 0} (s : AnySources S R) (w : AnySink W) (e : AnySink E) (c z : S) (out_old out_new : W) (err_old err_new : E) where
  -- after the sites were pointed
  pub seen_pointed : (a b x y : S) (p q last u v end : ℕ) → KeepsFiles s a b → KeepsFiles s x y → q ≡ p → v ≡ u
      → line_view (view_between s w e b c out_old out_new err_old err_new) (view_between s w e y z out_old out_new err_old err_new)
      (record { before = q; after = last; trusted_before = v; trusted_after = end })
      ≡ line_view (view_between s w e a c out_old out_new err_old err_new) (view_between s w e x z out_old out_new err_old err_new)
      (record { before = p; after = last; trusted_before = u; trusted_after = end })
  seen_pointed a b x y p q last u v end kept other_kept same other_same = search rules

  -- after the configuration was read
  pub seen_read : (a b x : S) (p last u end : ℕ) → OpensOneFile s a b
      → line_view (view_between s w e b c out_old out_new err_old err_new) (view_between s w e x z out_old out_new err_old err_new)
      (record { before = p; after = last; trusted_before = u; trusted_after = end })
      ≡ line_view (view_between s w e a c out_old out_new err_old err_new) (view_between s w e x z out_old out_new err_old err_new)
      (record { before = p; after = last; trusted_before = u; trusted_after = end })
  seen_read a b x p last u end opened = rw (opened.files, opened.reliable, opened.openings) refl

-- the comparison as it is seen from an earlier moment
pub closes_seen : (list : ListRead) (named trusted : Named) (options : Options) (status : ℕ) (v now : LineView)
    (count later end : ℕ) → later ≡ count → now ≡ v → ClosesCompared list named trusted options status (Rose later end) now
    → ClosesCompared list named trusted options status (Rose count end) v
closes_seen list named trusted options status v now count later end same seen closes =
    subst (λ (n : ℕ). ClosesCompared list named trusted options status (Rose n end) v) same
    (subst (λ (x : LineView). ClosesCompared list named trusted options status (Rose later end) x) seen closes)

-- the comparison for paths and options that are equal
pub closes_as : (list : ListRead) (named trusted other : Named) (options wish : Options) (status : ℕ) (site : Type 0)
    (v : LineView) → trusted ≡ other → options ≡ wish → ClosesCompared list named trusted options status site v
    → ClosesCompared list named other wish status site v
closes_as list named trusted other options wish status site v same same_wish closes = search (rules, same_wish)

no_settings_by : (files : Files) (reliable : Bool) (job : JobText) (site more : Type 0) (why : NoSettings) → (site → more)
    → NoSettingsCause files reliable job site why → NoSettingsCause files reliable job more why
no_settings_by files reliable job site more Memory then cause = tt
no_settings_by files reliable job site more Unread then cause = (then cause.0, cause.1)
no_settings_by files reliable job site more TooLarge then cause = cause
no_settings_by files reliable job site more (Refused fault) then cause = cause

stop_later : (files : Files) (is_reliable : Bool) (job : LineJobText) (site more : Type 0) (stop : EarlyStop) → (site → more)
    → StopCause files is_reliable job site stop → StopCause files is_reliable job more stop
stop_later files is_reliable job site more (list_refused fault) then cause = cause
stop_later files is_reliable job site more (no_settings why) then cause = elim cause [
  | inl memory ↦ inl memory
  | inr because ↦ inr (because.0, no_settings_by files is_reliable (comparison_of job) site more why then because.1)
]

-- the end of a session as it is seen from an earlier moment
pub ends_seen : (job : LineJobText) (status before later : ℕ) (v now : LineView) → before ≤ later → now ≡ v
    → EndsLinesBy job status later now → EndsLinesBy job status before v
ends_seen job status before later v now more seen ends =
    elim (subst (λ (x : LineView). EndsLinesBy job status later x) seen ends) [
      | inl early ↦ inl (record {
        stop = early.stop;
        cause = stop_later v.files v.is_reliable job (Rose later v.site_after) (Rose before v.site_after) early.stop
            (rose_later before later v.site_after more) early.cause;
        stops = early.stops;
      })
      | inr closes ↦ inr (record {
        list = closes.list;
        listed = closes.listed;
        settings = closes.settings;
        read = closes.read;
        named = closes.named;
        config_is = closes.config_is;
        old_is = closes.old_is;
        new_is = closes.new_is;
        count = closes.count;
        later = let h = closes.later in omega (arith, more, h);
        closes = closes.closes;
      })
    ]

-- ---- the job of the arguments

pub is_none_and_some : (o : Option LineJobText) (job : LineJobText) → o ≡ None → o ≡ Some job → ⊥
is_none_and_some o job none some = cc

abbrev job_or : LineJobText → Option LineJobText → LineJobText
job_or other None = other
job_or other (Some job) = job

pub same_job : (o : Option LineJobText) (one other : LineJobText) → o ≡ Some one → o ≡ Some other → one ≡ other
same_job o one other p q = sym (ap (job_or one) p) ∙ ap (job_or one) q

-- the end of the session of a job that is equal
pub ends_for : (one other : LineJobText) (status before : ℕ) (v : LineView) → one ≡ other → EndsLinesBy one status before v
    → EndsLinesBy other status before v
ends_for one other status before v same ends = subst (λ (j : LineJobText). EndsLinesBy j status before v) same ends
