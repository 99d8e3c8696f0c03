-- How a run that writes the report comes to its promise: by the first readings, and by the writing that follows them.
use Rattle.std.proofs.Common.{◌≡◌, ◌≤◌, ◌+◌, ℕ, List, Option, refl, subst, sym, arith}
use Rattle.std.specs.Prelude.{false, Some, Result, Ok, Err}
use Rattle.aide_db.specs.Database.{IsSound}
use Rattle.aide_db.specs.DeskView.{DeskView}
use Rattle.aide_db.specs.declared.fault.DbFault.{DbFault}
use Rattle.aide_db.specs.declared.limits.Limits.{Limits}
use Rattle.aide_db.specs.declared.side.Side.{Side}
use Rattle.aide_db.specs.declared.side.Side.TheVariants.{Old, New}
use Rattle.aide_text.specs.Failures.{Rose}
use Rattle.aide_text.specs.declared.sink.Sink.{Ghosts as AnySink}
use Rattle.aide_text.proofs.Sending.{Appends-nothing}
use Rattle.aide_report_specs.specs.Agreement.{IsOfOutcome, OpensByOutcome}
use Rattle.aide_merge.specs.Asked.{Asked}
use Rattle.aide_merge.specs.RightAnswer.{IsHindered}
use Rattle.aide_report_specs.specs.Given.{GiveOneDigest}
use Rattle.aide_merge.specs.Openings.{OpensAtMost, OpensExactly}
use Rattle.aide_report.specs.Run.{IsRun}
use Rattle.aide_merge.specs.RunFaults.{HasSentNothing, HasWrittenIfAny, IsCaused}
use Rattle.aide_report_specs.specs.Runs.{EndsEarly, EndsWell, Runs, openings_over, report_over}
use Rattle.aide_merge.specs.RightAnswer.{Report}
use Rattle.aide_merge.specs.Seen.{KeepsSources, Seen, SinkSeen, sink_seen}
use Rattle.aide_report.specs.code.Passes.{FlushesOnce, Passes}
use Rattle.aide_merge.specs.code.Desks.{ClearsDesk}
use Rattle.aide_merge.specs.code.ReadFaults.{IsReadFault}
use Rattle.aide_report.specs.code.Readings.{IsFindingFault}
use Rattle.aide_merge.specs.declared.outcome.Outcome.{Outcome}
use Rattle.aide_merge.specs.declared.run_fault.RunFault.{RunFault}
use Rattle.aide_merge.specs.declared.run_fault.RunFault.TheVariants.{Write}
use Rattle.aide_merge.proofs.BoundLemmas.{fits_limit, fits_within}
use Rattle.aide_report.proofs.FaultLemmas.{first_later}
use Rattle.aide_report.proofs.MissingLemmas.{fault_of_pass, front_by, nothing_front, whole_by}
use Rattle.aide_merge.proofs.RightAnswers.{stops_for}
use Rattle.aide_merge.proofs.ReadFaultLemmas.{cause_by, fault_as}
use Rattle.aide_report.proofs.OpeningLemmas.{unsent_begun, unsent_nothing}
use Rattle.aide_report.proofs.PassLemmas.{fault_then}
use Rattle.aide_merge.proofs.KeepLemmas.{sources_then}
use Rattle.aide_merge.proofs.KeepLemmas.{clears_then}
use Rattle.aide_merge.proofs.PenLemmas.{counts_nothing}
use Rattle.aide_report.proofs.SectionsLemmas.{opens_more, opens_then, opens_within}

at_most : (k n : ℕ) → k ≡ n → n ≤ k
at_most k n is = omega (arith, is)

-- ---- a fault before anything is written

nothing_written : (sources : Type 0) (bytes : Option (List ℕ)) (fault : RunFault) → IsCaused sources ⊥ fault
    → HasWrittenIfAny bytes bytes fault
nothing_written sources bytes (Write written) caused = absurd caused
nothing_written sources bytes _ caused = tt

pub run_stops : (limits : Limits) (wish : Asked) (n : ℕ) {a b : Seen} {d e : DeskView} (o : SinkSeen) {fault : RunFault}
    → n ≤ 6 → ((old new : List ℕ) → n ≤ openings_over wish old new)
    → KeepsSources a b → OpensAtMost a.openings b.openings n → IsFindingFault limits a b d.room fault
    → ClearsDesk limits a.bytes_of d e → IsRun limits wish a b d e o o (Err fault)
run_stops limits wish n {a} {b} {d} {e} o {fault} most within kept few found cleared =
    let sources = Rose a.failures b.failures in
    let sink = Rose o.failures o.failures in
    let is : IsReadFault limits a b d.room sink fault = fault_as (λ none. absurd none) found.read in
    let peaks = fits_limit a.bytes_of limits d e cleared.fits in
    record {
      over = λ old new told_old told_new r runs. (
        stops_for limits (report_over wish) old new (IsHindered old new sources sink) fault (is.over old new told_old told_new) r runs,
        nothing_front r o.delivered,
      );
      reliable = is.reliable;
      sound = tt;
      nothing = λ side text told unsound. Appends-nothing o.delivered;
      written = nothing_written sources o.delivered fault found.read.caused;
      consistent = tt;
      flushed = tt;
      flushes = refl;
      unsent = unsent_nothing 2 (a.openings Old) (b.openings Old) o.delivered fault;
      agreed = tt;
      at_same = kept.at_same;
      cause = cause_by (report_over wish) fault is;
      right = is.right;
      refused = is.refused;
      not_given = is.not_given;
      sources_never_fall = kept.never_falls;
      sink_fails = counts_nothing sources o.failures fault found.read.caused;
      opens = tt;
      opens_told = tt;
      opens_within = λ old new told_old told_new sound_old sound_new. opens_within _ _ n _ (within old new) few;
      opens_some = opens_within _ _ n _ most few;
      opens_first = found.opens_first;
      peak = peaks.0;
      below = peaks.1;
      bound = fits_within a.bytes_of limits d e cleared.fits;
      room = cleared.room;
      memory = is.memory;
      lookups = kept.lookups;
    }

-- ---- the writing, after both databases were read

-- What was read before anything is written.
pub record ReadsFirst (limits : Limits) (n : ℕ) (a b : Seen) (d e : DeskView) : Type 0 where
  -- the sources are as they were, but for openings and failures
  pub kept : KeepsSources a b
  -- each side was opened this often
  pub opened : OpensExactly a.openings b.openings n
  -- the desk was cleared first
  pub cleared : ClearsDesk limits a.bytes_of d e
  -- both texts are sound, and no side is missing
  pub sound : (side : Side) (text : List ℕ) → a.bytes_of side ≡ Some text → IsSound limits text
  pub there : (side : Side) → a.is_missing side ≡ false

module _ (limits : Limits) (wish : Asked) (n m : ℕ) {a b c : Seen} {d e f : DeskView} {W : Type 0} (s : AnySink W)
    (out sent : W) (read : ReadsFirst limits n a b d e) where
  -- what is written is the whole of the answer
  pub run_ends : {T : Type 0} {answer : T} {sink : Type 0} (outcome : Outcome)
      → Passes limits m b c e f sink (Ok answer) → FlushesOnce {T = T} s out sent (Ok answer)
      → n + m ≤ 6
      → ((old new : List ℕ) → a.bytes_of Old ≡ Some old → a.bytes_of New ≡ Some new → openings_over wish old new ≡ n + m)
      → GiveOneDigest a.bytes_at a.openings c.openings
      → IsOfOutcome wish.options outcome (s.delivered out) (s.delivered sent)
      → OpensByOutcome wish.options outcome a.openings c.openings
      → ((old new : List ℕ) → a.bytes_of Old ≡ Some old → a.bytes_of New ≡ Some new
      → (r : Result Report DbFault) → Runs limits wish old new r → EndsWell r outcome (s.delivered out) (s.delivered sent))
      → IsRun limits wish a c d f (sink_seen s out) (sink_seen s sent) (Ok outcome)
  run_ends outcome passes flush most are agreed is_of told well =
      let kept = sources_then read.kept passes.sources in
      let cleared = clears_then read.kept.same read.cleared passes.desk in
      let peaks = fits_limit a.bytes_of limits d f cleared.fits in
      record {
        over = λ old new told_old told_new r runs. whole_by limits (report_over wish) a.bytes_of a.is_missing old new outcome
            (s.delivered out) (s.delivered sent) told_old told_new read.there well r runs;
        reliable = λ is. tt;
        sound = read.sound;
        nothing = λ side text told unsound. absurd (unsound (read.sound side text told));
        written = tt;
        consistent = is_of;
        flushed = flush.flushed;
        flushes = flush.flushes;
        unsent = tt;
        agreed = agreed;
        at_same = kept.at_same;
        cause = tt;
        right = tt;
        refused = tt;
        not_given = tt;
        sources_never_fall = kept.never_falls;
        sink_fails = flush.fails;
        opens = λ old new told_old told_new. opens_more _ _ _ n m _ (are old new told_old told_new) read.opened passes.opens;
        opens_told = told;
        opens_within = λ old new told_old told_new sound_old sound_new.
            opens_then _ _ _ n m _ (at_most _ _ (are old new told_old told_new)) read.opened passes.opens_some;
        opens_some = opens_then _ _ _ n m _ most read.opened passes.opens_some;
        opens_first = tt;
        peak = peaks.0;
        below = peaks.1;
        bound = fits_within a.bytes_of limits d f cleared.fits;
        room = cleared.room;
        memory = λ fits. tt;
        lookups = kept.lookups;
      }

  -- the writing ends early
  pub run_breaks : {T : Type 0} {fault : RunFault}
      → Passes {T = T} limits m b c e f (Rose (s.failures out) (s.failures sent)) (Err fault)
      → FlushesOnce {T = T} s out sent (Err fault)
      → n + m ≤ 6
      → ((old new : List ℕ) → a.bytes_of Old ≡ Some old → a.bytes_of New ≡ Some new → openings_over wish old new ≡ n + m)
      → 2 ≡ n
      → ((old new : List ℕ) → a.bytes_of Old ≡ Some old → a.bytes_of New ≡ Some new
      → (r : Result Report DbFault) → Runs limits wish old new r → EndsEarly r (s.delivered out) (s.delivered sent))
      → IsRun limits wish a c d f (sink_seen s out) (sink_seen s sent) (Err fault)
  run_breaks {fault = fault} passes flush most are before early =
      let kept = sources_then read.kept passes.sources in
      let cleared = clears_then read.kept.same read.cleared passes.desk in
      let peaks = fits_limit a.bytes_of limits d f cleared.fits in
      let sources = Rose a.failures c.failures in
      let sink = Rose (s.failures out) (s.failures sent) in
      let pass = fault_then n read.kept read.opened read.cleared.room passes.fault in
      let is = fault_of_pass read.there read.sound pass in
      record {
        over = λ old new told_old told_new r runs. (
          stops_for limits (report_over wish) old new (IsHindered old new sources sink) fault (is.over old new told_old told_new) r runs,
          front_by limits (report_over wish) a.bytes_of a.is_missing old new (s.delivered out) (s.delivered sent) told_old told_new
              read.there early r runs,
        );
        reliable = is.reliable;
        sound = tt;
        nothing = λ side text told unsound. absurd (unsound (read.sound side text told));
        written = flush.written;
        consistent = tt;
        flushed = tt;
        flushes = flush.flushes;
        unsent = subst (λ n. HasSentNothing n (a.openings Old) (c.openings Old) (s.delivered out) (s.delivered sent) fault) (sym before)
            (unsent_begun n (a.openings Old) (b.openings Old) (c.openings Old) (s.delivered out) (s.delivered sent) fault
            read.opened.of_old passes.fault.begun);
        agreed = tt;
        at_same = kept.at_same;
        cause = cause_by (report_over wish) fault is;
        right = is.right;
        refused = is.refused;
        not_given = is.not_given;
        sources_never_fall = kept.never_falls;
        sink_fails = flush.fails;
        opens = tt;
        opens_told = tt;
        opens_within = λ old new told_old told_new sound_old sound_new.
            opens_then _ _ _ n m _ (at_most _ _ (are old new told_old told_new)) read.opened passes.opens_some;
        opens_some = opens_then _ _ _ n m _ most read.opened passes.opens_some;
        opens_first = first_later limits a.bytes_of a.openings c.openings fault pass.later;
        peak = peaks.0;
        below = peaks.1;
        bound = fits_within a.bytes_of limits d f cleared.fits;
        room = cleared.room;
        memory = is.memory;
        lookups = kept.lookups;
      }
