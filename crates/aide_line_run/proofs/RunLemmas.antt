-- How a run with a trusted pair comes to its promise.
use Rattle.std.specs.Prelude.{ℕ, ◌≡◌, ◌⊎◌, true, false, Option, List, Ok, Err}
use Rattle.std.specs.Io.KnownBytes.{Appends}
use Rattle.std.proofs.Common.{ap, refl, sym, ◌∙◌}
use Rattle.aide_db.specs.DeskView.{DeskView}
use Rattle.aide_db.specs.declared.limits.Limits.{Limits}
use Rattle.aide_db.specs.declared.reel.Reel.{Ghosts as Reels}
use Rattle.aide_merge.specs.Asked.{Asked}
use Rattle.aide_line_run.specs.LineCounts.{account_count, entry_count}
use Rattle.aide_line_run.specs.LineCounts.{line_outcome}
use Rattle.aide_line_run.specs.Stops.{KeepsUnopened}
use Rattle.aide_merge.specs.RunFaults.{CountsWriteFault, HasWrittenIfAny, IsCaused}
use Rattle.aide_merge.specs.Seen.{Seen, sink_seen}
use Rattle.aide_merge.specs.code.Desks.{ClearsDesk}
use Rattle.aide_merge.specs.declared.outcome.Outcome.{Outcome}
use Rattle.aide_merge.specs.declared.run_fault.RunFault.{RunFault}
use Rattle.aide_merge.specs.declared.run_fault.RunFault.TheVariants.{Open, Database, Changed, Write}
use Rattle.aide_text.specs.Failures.{Rose}
use Rattle.aide_text.specs.declared.sink.Sink.{Ghosts as Sinks}
use Rattle.aide_text.proofs.Sending.{Appends-nothing}
use Rattle.aide_line_run.specs.Listed.{ListRead}
use Rattle.aide_line_run.specs.PairSeen.{pair_seen}
use Rattle.aide_line_run.specs.Pairs.{CountsPairWrites, OfCompared, OfEach}
use Rattle.aide_line_run.specs.LinesRun.{IsLinesRun}
use Rattle.aide_line_run.specs.Sought.{accounted_lines}
use Rattle.aide_line_run.specs.code.Readings.{AreOpened, IsFaultOfFour, KeepsPair}
use Rattle.aide_line_run.specs.code.Written.{CutsChanges, CutsLast, FlushesPair, HasToldAll, IsFirstFault, facts_found}
use Rattle.aide_line_run.specs.declared.pair_fault.PairFault.{PairFault}
use Rattle.aide_line_run.specs.declared.pair_fault.PairFault.TheVariants.{Compared, Trusted}
use Rattle.aide_line_run.specs.declared.walk.Merges.{Merges}
use Rattle.aide_line_run.specs.declared.write.PairsFound.{PairsFound}
use Rattle.aide_line_run.proofs.EndLemmas.{compared_read, cut_by, cut_none, fronts_by, fronts_none, trusted_read}
use Rattle.aide_line_run.proofs.WholeLemmas.{ends_whole}
use Rattle.aide_line_run.proofs.ReadLemmas.{faults_of_pairs, four_as, four_behind, leaves_pair, opens_closed, stops_over}
use Rattle.aide_line_run.proofs.TallyLemmas.{all_accounted, all_alone}

true_false : true ≡ false → ⊥
true_false e = cc

-- ---- nothing was written

no_write : (sources : Type 0) (bytes : Option (List ℕ)) (fault : RunFault) → IsCaused sources ⊥ fault → HasWrittenIfAny bytes bytes fault
no_write sources bytes (Open side) p = tt
no_write sources bytes (Database fault) p = tt
no_write sources bytes (Changed side) p = tt
no_write sources bytes (Write written) p = absurd p

no_failed_write : (sources : Type 0) (n : ℕ) (fault : RunFault) → IsCaused sources ⊥ fault → CountsWriteFault n n fault
no_failed_write sources n (Open side) p = refl
no_failed_write sources n (Database fault) p = refl
no_failed_write sources n (Changed side) p = refl
no_failed_write sources n (Write written) p = absurd p

none_unopened : (bytes : Option (List ℕ)) (fault : RunFault) → KeepsUnopened bytes bytes fault
none_unopened bytes (Open side) = Appends-nothing bytes
none_unopened bytes (Database fault) = tt
none_unopened bytes (Changed side) = tt
none_unopened bytes (Write written) = tt

module _ (limits : Limits) (a b s t : Seen) (room trusted_room : ℕ) where
  nothing_written : (bytes : Option (List ℕ)) (fault : PairFault) → IsFaultOfFour limits a b room ⊥ s t trusted_room fault
      → OfCompared (HasWrittenIfAny bytes bytes) fault
  nothing_written bytes (Compared fault) is = no_write (Rose a.failures b.failures) bytes fault is.read.caused
  nothing_written bytes (Trusted fault) is = tt

  nothing_failed : (n : ℕ) (fault : PairFault) → IsFaultOfFour limits a b room ⊥ s t trusted_room fault
      → CountsPairWrites {X = Outcome} n n (Err fault)
  nothing_failed n (Compared fault) is = no_failed_write (Rose a.failures b.failures) n fault is.read.caused
  nothing_failed n (Trusted fault) is = refl

nothing_unopened : (bytes : Option (List ℕ)) (fault : PairFault) → OfEach (KeepsUnopened bytes bytes) (KeepsUnopened bytes bytes) fault
nothing_unopened bytes (Compared fault) = none_unopened bytes fault
nothing_unopened bytes (Trusted fault) = none_unopened bytes fault

-- once all four are open no side is refused
first_opened : {R : Type 0} (r : Reels R) (m n : Merges R) (d u : DeskView) (sink : Type 0) (before after : Option (List ℕ))
    (fault : PairFault) → IsFirstFault r m n d u sink fault
    → OfEach (KeepsUnopened before after) (KeepsUnopened before after) fault
first_opened r m n d u sink before after (Compared (Open side)) is = absurd is
first_opened r m n d u sink before after (Compared (Database fault)) is = tt
first_opened r m n d u sink before after (Compared (Changed side)) is = absurd is
first_opened r m n d u sink before after (Compared (Write written)) is = tt
first_opened r m n d u sink before after (Trusted (Open side)) is = absurd is
first_opened r m n d u sink before after (Trusted (Database fault)) is = tt
first_opened r m n d u sink before after (Trusted (Changed side)) is = absurd is
first_opened r m n d u sink before after (Trusted (Write written)) is = absurd is

module _ (limits : Limits) (list : ListRead) (wish trusted_wish : Asked) {a b s t : Seen} {start d e trusted_start u v : DeskView}
    {W : Type 0} (w : Sinks W)
    (cleared : ClearsDesk limits a.bytes_of start d) (trusted_cleared : ClearsDesk limits s.bytes_of trusted_start u)
    (keeps : KeepsPair limits a b d e) (trusted_keeps : KeepsPair limits s t u v) where
  -- a side was refused, or what comes before it has a fault
  pub run_refused : (out : W) (fault : PairFault) → IsFaultOfFour limits a b d.room ⊥ s t u.room fault
      → IsLinesRun limits list (pair_seen wish a b start e) (pair_seen trusted_wish s t trusted_start v) (sink_seen w out)
      (sink_seen w out)
      (Err fault)
  run_refused out fault is =
      let bytes = w.delivered out in
      let sink = Rose (w.failures out) (w.failures out) in
      let means = four_as limits a b s t d.room u.room ⊥ sink fault (λ none. absurd none) is in
      record {
        over = stops_over limits a b s t d.room u.room sink list wish trusted_wish start e trusted_start v fault means;
        cut = λ old new trusted_old trusted_new told trusted_told.
            cut_none limits list wish trusted_wish old new trusted_old trusted_new bytes fault;
        early = λ texts fronts told trusted_told are. fronts_none limits list wish trusted_wish texts fronts bytes fault;
        unopened = nothing_unopened bytes fault;
        missing = λ side gone. Appends-nothing bytes;
        trusted_missing = λ side gone. Appends-nothing bytes;
        sound = tt;
        trusted_sound = tt;
        behind = four_behind limits a b s t d.room u.room sink fault means;
        consistent = tt;
        flushed = tt;
        flushes = refl;
        written = nothing_written limits a b s t d.room u.room bytes fault is;
        sink_fails = nothing_failed limits a b s t d.room u.room (w.failures out) fault is;
        fault = faults_of_pairs limits a b s t d.room u.room sink list wish trusted_wish start e trusted_start v fault cleared.room
            trusted_cleared.room means;
        leaves = leaves_pair wish cleared keeps;
        trusted_leaves = leaves_pair trusted_wish trusted_cleared trusted_keeps;
        opens = tt;
        trusted_opens = tt;
      }

  module _ {R : Type 0} {r : Reels R} {opened trusted_opened : Seen} {m n : Merges R} {d_open u_open : DeskView}
      (p : AreOpened r limits a opened d_open m.compared) (q : AreOpened r limits s trusted_opened u_open m.trusted) where
    -- all was read and written
    pub run_told : (out sent : W) (found : PairsFound) → b.openings ≡ opened.openings → t.openings ≡ trusted_opened.openings
        → HasToldAll r list wish trusted_wish m n d_open e u_open v found (Appends (w.delivered out) (w.delivered sent))
        → FlushesPair {X = PairsFound} w out sent (Ok found)
        → IsLinesRun limits list (pair_seen wish a b start e) (pair_seen trusted_wish s t trusted_start v) (sink_seen w out)
        (sink_seen w sent)
        (Ok (line_outcome found.counts found.compared.skipped_old found.compared.skipped_new))
    run_told out sent found closed trusted_closed told flush =
        record {
          over = ends_whole p q list wish trusted_wish (w.delivered out) (w.delivered sent) told;
          cut = λ old new trusted_old trusted_new told trusted_told. tt;
          early = λ texts fronts told trusted_told are. tt;
          unopened = tt;
          missing = λ side gone. absurd (true_false (sym gone ∙ p.there side));
          trusted_missing = λ side gone. absurd (true_false (sym gone ∙ q.there side));
          sound = (compared_read p q told.read).sound;
          trusted_sound = (trusted_read p q told.read).sound;
          behind = tt;
          consistent = record {
            facts = facts_found found;
            skipped_old = refl;
            skipped_new = refl;
            counts = found.counts;
            told = refl;
            accounted = ap account_count told.counted ∙ all_accounted wish.options told.done ∙ ap entry_count (sym told.counted);
            between = accounted_lines wish.options told.done;
            bytes = told.goes;
            alone = λ none. all_alone wish.options told.done (ap entry_count (sym told.counted) ∙ none);
          };
          flushed = flush.flushed;
          flushes = flush.flushes;
          written = tt;
          sink_fails = flush.fails;
          fault = tt;
          leaves = leaves_pair wish cleared keeps;
          trusted_leaves = leaves_pair trusted_wish trusted_cleared trusted_keeps;
          opens = opens_closed a.openings opened.openings b.openings closed p.opens;
          trusted_opens = opens_closed s.openings trusted_opened.openings t.openings trusted_closed q.opens;
        }

    -- a fault came while all four were read
    pub run_cut : (out sent : W) (fault : PairFault)
        → CutsChanges r list wish trusted_wish m d_open u_open (w.delivered out) (w.delivered sent) fault
        ⊎ CutsLast r list wish trusted_wish m n d_open e u_open v (w.delivered out) (w.delivered sent) fault
        → IsFirstFault r m n d_open u_open (Rose (w.failures out) (w.failures sent)) fault
        → IsFaultOfFour limits a b d.room (Rose (w.failures out) (w.failures sent)) s t u.room fault
        → FlushesPair {X = PairsFound} w out sent (Err fault)
        → IsLinesRun limits list (pair_seen wish a b start e) (pair_seen trusted_wish s t trusted_start v) (sink_seen w out)
        (sink_seen w sent)
        (Err fault)
    run_cut out sent fault cut first means flush =
        let sink = Rose (w.failures out) (w.failures sent) in
        record {
          over = stops_over limits a b s t d.room u.room sink list wish trusted_wish start e trusted_start v fault means;
          cut = λ old new trusted_old trusted_new told trusted_told.
              cut_by p q list wish trusted_wish old new trusted_old trusted_new told.0 told.1 trusted_told.0 trusted_told.1
              (w.delivered out) (w.delivered sent) fault cut;
          early = λ texts fronts told trusted_told are.
              fronts_by p q list wish trusted_wish texts.old texts.new texts.trusted_old texts.trusted_new told.0 told.1 trusted_told.0
              trusted_told.1 fronts are (w.delivered out) (w.delivered sent) fault cut;
          unopened = first_opened r m n d_open u_open sink (w.delivered out) (w.delivered sent) fault first;
          missing = λ side gone. absurd (true_false (sym gone ∙ p.there side));
          trusted_missing = λ side gone. absurd (true_false (sym gone ∙ q.there side));
          sound = tt;
          trusted_sound = tt;
          behind = four_behind limits a b s t d.room u.room sink fault means;
          consistent = tt;
          flushed = tt;
          flushes = flush.flushes;
          written = flush.written;
          sink_fails = flush.fails;
          fault = faults_of_pairs limits a b s t d.room u.room sink list wish trusted_wish start e trusted_start v fault cleared.room
              trusted_cleared.room means;
          leaves = leaves_pair wish cleared keeps;
          trusted_leaves = leaves_pair trusted_wish trusted_cleared trusted_keeps;
          opens = tt;
          trusted_opens = tt;
        }
