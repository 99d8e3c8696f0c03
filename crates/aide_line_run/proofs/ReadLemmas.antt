-- What a run with a trusted pair reads of each pair, and what a fault of a pair means.
use Rattle.std.specs.Prelude.{ℕ, ◌≡◌, ◌<◌, ◌≤◌, true, false, ⊤, Option, Some, List, Result, Ok}
use Rattle.std.proofs.Common.{refl, sym, subst}
use Rattle.aide_db.specs.Database.{IsSound}
use Rattle.aide_db.specs.DeskView.{DeskView}
use Rattle.aide_db.specs.declared.fault.DbFault.{DbFault}
use Rattle.aide_db.specs.declared.limits.Limits.{Limits}
use Rattle.aide_db.specs.declared.reel.Reel.{Ghosts as Reels}
use Rattle.aide_db.specs.declared.side.Side.{Side}
use Rattle.aide_text.specs.Failures.{Rose}
use Rattle.aide_merge.specs.Asked.{Asked}
use Rattle.aide_merge.specs.Bound.{FitsAfterBoth}
use Rattle.aide_merge.specs.RightAnswer.{IsHindered}
use Rattle.aide_merge.specs.Openings.{OpensAtMost, OpensExactly}
use Rattle.aide_merge.specs.RightAnswer.{Report}
use Rattle.aide_merge.specs.Outcomes.{outcome_over}
use Rattle.aide_merge.specs.Seen.{KeepsSources, Seen}
use Rattle.aide_merge.specs.code.MergeCalls.{IsOpened}
use Rattle.aide_merge.specs.code.Merging.{reels_failed}
use Rattle.aide_line_run.specs.code.OneReading.{IsFirstOfBoth, IsOneReadingFault, Reads}
use Rattle.aide_merge.specs.code.Desks.{KeepsDesk}
use Rattle.aide_merge.specs.code.Desks.{ClearsDesk}
use Rattle.aide_merge.specs.declared.merge.Merge.{Merge}
use Rattle.aide_merge.specs.declared.run_fault.RunFault.{RunFault}
use Rattle.aide_merge.specs.declared.run_fault.RunFault.TheVariants.{Open, Database, Changed, Write}
use Rattle.aide_merge.proofs.BoundLemmas.{fits_limit, fits_within}
use Rattle.aide_merge.proofs.RightAnswers.{stops_for}
use Rattle.aide_merge.proofs.ReadFaultLemmas.{cause_by}
use Rattle.aide_line_run.proofs.StopLemmas.{comes_of}
use Rattle.aide_line_run.proofs.OneReadingLemmas.{desk_read, fault_of_write, once_as, stops_at}
use Rattle.aide_merge.proofs.KeepLemmas.{desk_then, sources_then}
use Rattle.aide_merge.proofs.KeepLemmas.{clears_then}
use Rattle.aide_line_run.specs.RunEnds.{IsFaultOfPair, LeavesPair, RunsLines, StopsForPair, over_sides}
use Rattle.aide_line_run.specs.Listed.{ListRead}
use Rattle.aide_line_run.specs.Lines.{lines_of_texts}
use Rattle.aide_line_run.specs.PairSeen.{Told, pair_seen}
use Rattle.aide_line_run.specs.Pairs.{OfEach}
use Rattle.aide_line_run.specs.code.Readings.{AreOpened, AreSoundThere, IsFaultOfFour, KeepsPair}
use Rattle.aide_line_run.specs.code.Settled.{AreReadSound}
use Rattle.aide_line_run.specs.code.Written.{IsFirstFault}
use Rattle.aide_line_run.specs.declared.pair_fault.PairFault.{PairFault}
use Rattle.aide_line_run.specs.declared.pair_fault.PairFault.TheVariants.{Compared, Trusted}
use Rattle.aide_line_run.specs.declared.walk.Merges.{Merges}
use Rattle.aide_line_run.proofs.PairLemmas.{okay_over, stops_compared, stops_trusted}

-- ---- the reading of a pair

-- a pair that was opened, and whose reading has begun
pub keeps_begun : {T : Type 0} {limits : Limits} {a b : Seen} {d e f : DeskView} {sink : Type 0} {opened : T}
    → Reads {T = T} limits a b d e sink (Ok opened) → KeepsDesk limits a.bytes_of e f → KeepsPair limits a b d f
keeps_begun p desk = record { sources = p.sources; desk = desk_then refl p.desk desk; opens_some = p.opens_some }

-- a pair that was opened, read and closed
pub keeps_read : {R : Type 0} {r : Reels R} {limits : Limits} {a b c : Seen} {d e f : DeskView} {m : Merge R}
    → KeepsPair limits a b d e → IsOpened r limits a.bytes_of m e → f.room ≡ e.room → FitsAfterBoth r.to_come m e f
    → KeepsSources b c → c.openings ≡ b.openings → KeepsPair limits a c d f
keeps_read {a = a} p opened room fits closes same = record {
  sources = sources_then p.sources closes;
  desk = desk_read p.desk opened room fits;
  opens_some = subst (λ (after : Side → ℕ). OpensAtMost a.openings after 1) (sym same) p.opens_some;
}

-- each side once
pub opens_closed : (before opened after : Side → ℕ) → after ≡ opened → OpensExactly before opened 1 → OpensExactly before after 1
opens_closed before opened after same opens = subst (λ (count : Side → ℕ). OpensExactly before count 1) (sym same) opens

-- what a run leaves of it that has begun with an empty desk
pub leaves_pair : {limits : Limits} {a b : Seen} {d e f : DeskView} (wish : Asked) → ClearsDesk limits a.bytes_of d e
    → KeepsPair limits a b e f → LeavesPair limits (pair_seen wish a b d f)
leaves_pair {limits} {a} {b} {d} {e} {f} wish cleared kept =
    let desk = clears_then refl cleared kept.desk in
    let held = fits_limit a.bytes_of limits d f desk.fits in
    record {
      never_falls = kept.sources.never_falls;
      lookups = kept.sources.lookups;
      opens_some = kept.opens_some;
      peak = held.0;
      below = held.1;
      bound = λ old new told. fits_within a.bytes_of limits d f desk.fits old new told.0 told.1;
      room = desk.room;
    }

-- ---- a fault

-- the compared texts are sound
pub sound_there : {R : Type 0} {r : Reels R} {limits : Limits} {a : Seen} {e : DeskView} {m : Merge R}
    → ((side : Side) → a.is_missing side ≡ false) → IsOpened r limits a.bytes_of m e → AreReadSound r m e → AreSoundThere limits a
sound_there there opened sound = record {
  there = there;
  sound = λ side text told. subst (λ (l : Limits). IsSound l text) (opened.limits_of side)
      (sound side text (opened.stands side text told));
}

-- a fault of a pair that was read and closed
pub first_read : {R : Type 0} {r : Reels R} {limits : Limits} {a b c : Seen} {e : DeskView} {m n : Merge R} {sink : Type 0} {room : ℕ}
    (first : DbFault) → KeepsSources a b → AreOpened r limits a b e m → e.room ≡ room → KeepsSources b c
    → (0 < reels_failed r.failures n → Rose b.failures c.failures) → (b.is_reliable ≡ true → reels_failed r.failures n ≡ 0)
    → IsFirstOfBoth r m n e first → IsOneReadingFault limits a c room sink (Database first)
first_read first sources p room closes rose unfailed is =
    stops_at sources closes p.there p.opened room first.side first refl rose unfailed is

-- why the writing ends, as a fault of the run
module _ {R : Type 0} {r : Reels R} {limits : Limits} {a b c s t w : Seen} {e v : DeskView} {m : Merges R} {room trusted_room : ℕ}
    (n : Merges R) (sink : Type 0)
    (sources : KeepsSources a b) (p : AreOpened r limits a b e m.compared) (kept : e.room ≡ room) (closes : KeepsSources b c)
    (rose : 0 < reels_failed r.failures n.compared → Rose b.failures c.failures)
    (unfailed : b.is_reliable ≡ true → reels_failed r.failures n.compared ≡ 0)
    (trusted_sources : KeepsSources s t) (q : AreOpened r limits s t v m.trusted) (trusted_kept : v.room ≡ trusted_room)
    (trusted_closes : KeepsSources t w)
    (trusted_rose : 0 < reels_failed r.failures n.trusted → Rose t.failures w.failures)
    (trusted_unfailed : t.is_reliable ≡ true → reels_failed r.failures n.trusted ≡ 0) where
  pub first_means : (fault : PairFault) → IsFirstFault r m n e v sink fault
      → IsFaultOfFour limits a c room sink s w trusted_room fault
  first_means (Compared (Open side)) is = absurd is
  first_means (Compared (Database first)) is = first_read first sources p kept closes rose unfailed is
  first_means (Compared (Changed side)) is = absurd is
  first_means (Compared (Write written)) is = fault_of_write limits a c room written is
  first_means (Trusted (Open side)) is = absurd is
  first_means (Trusted (Database first)) is =
      (first_read first trusted_sources q trusted_kept trusted_closes trusted_rose trusted_unfailed is.0, sound_there p.there p.opened is.1)
  first_means (Trusted (Changed side)) is = absurd is
  first_means (Trusted (Write written)) is = absurd is

-- the fault of one pair, for people
fault_of_pair : {limits : Limits} {a b : Seen} {d f : DeskView} {room : ℕ} {sink : Type 0} (wish : Asked) (fault : RunFault)
    → room ≡ d.room → IsOneReadingFault limits a b room sink fault → IsFaultOfPair limits (pair_seen wish a b d f) sink fault
fault_of_pair {limits} {a} {b} {sink = sink} wish fault kept is =
    let read = is.read in
    record {
      right = read.right;
      cause = comes_of (Rose a.failures b.failures) sink fault _ _ is.unchanged
          (cause_by (outcome_over wish.options) fault read);
      refused = read.refused;
      not_given = read.not_given;
      reliable = read.reliable;
      memory = λ le. read.memory (subst (λ room. limits.line ≤ room) (sym kept) le);
    }

module _ (limits : Limits) (a b s t : Seen) (room trusted_room : ℕ) (sink : Type 0) where
  -- another sink
  pub four_as : (next : Type 0) (fault : PairFault) → (sink → next)
      → IsFaultOfFour limits a b room sink s t trusted_room fault → IsFaultOfFour limits a b room next s t trusted_room fault
  four_as next (Compared fault) f is = once_as f is
  four_as next (Trusted fault) f is = is

  -- the compared texts are sound before a fault of the trusted pair
  pub four_behind : (fault : PairFault) → IsFaultOfFour limits a b room sink s t trusted_room fault
      → OfEach (λ other. ⊤) (λ other. (side : Side) (text : List ℕ) → a.bytes_of side ≡ Some text → IsSound limits text) fault
  four_behind (Compared fault) is = tt
  four_behind (Trusted fault) is = is.1.sound

  module _ (list : ListRead) (wish trusted_wish : Asked) (d f u w : DeskView) where
    pub faults_of_pairs : (fault : PairFault) → room ≡ d.room → trusted_room ≡ u.room
        → IsFaultOfFour limits a b room sink s t trusted_room fault
        → OfEach (IsFaultOfPair limits (pair_seen wish a b d f) sink) (IsFaultOfPair limits (pair_seen trusted_wish s t u w) ⊥) fault
    faults_of_pairs (Compared fault) kept trusted_kept is = fault_of_pair wish fault kept is
    faults_of_pairs (Trusted fault) kept trusted_kept is = fault_of_pair trusted_wish fault trusted_kept is.0

    pub stops_over : (fault : PairFault) → IsFaultOfFour limits a b room sink s t trusted_room fault
        → (old new trusted_old trusted_new : Option (List ℕ)) → Told (pair_seen wish a b d f) old new
        → Told (pair_seen trusted_wish s t u w) trusted_old trusted_new
        → (r : Result Report PairFault) → RunsLines limits list wish trusted_wish old new trusted_old trusted_new r
        → StopsForPair r (OfEach (IsHindered old new (Rose a.failures b.failures) sink)
        (IsHindered trusted_old trusted_new (Rose s.failures t.failures) ⊥)) fault
    stops_over (Compared fault) is old new trusted_old trusted_new told trusted_told r runs =
        stops_compared runs.compared runs.trusted (over_sides (lines_of_texts list wish trusted_wish) old new trusted_old trusted_new) r
        (IsHindered old new (Rose a.failures b.failures) sink) (IsHindered trusted_old trusted_new (Rose s.failures t.failures) ⊥)
        fault runs.answer (stops_for limits (outcome_over wish.options) old new (IsHindered old new (Rose a.failures b.failures) sink) fault
        (is.read.over old new told.0 told.1) runs.compared runs.compared_runs)
    stops_over (Trusted fault) is old new trusted_old trusted_new told trusted_told r runs =
        stops_trusted runs.compared runs.trusted (over_sides (lines_of_texts list wish trusted_wish) old new trusted_old trusted_new) r
        (IsHindered old new (Rose a.failures b.failures) sink) (IsHindered trusted_old trusted_new (Rose s.failures t.failures) ⊥)
        fault runs.answer
        (okay_over limits (outcome_over wish.options) a.bytes_of a.is_missing old new told.0 told.1 is.1.there is.1.sound
        runs.compared runs.compared_runs)
        (stops_for limits (outcome_over trusted_wish.options) trusted_old trusted_new
        (IsHindered trusted_old trusted_new (Rose s.failures t.failures) ⊥) fault
        (is.0.read.over trusted_old trusted_new trusted_told.0 trusted_told.1) runs.trusted runs.trusted_runs)
