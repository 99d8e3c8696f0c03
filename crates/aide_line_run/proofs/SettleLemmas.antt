-- The first of the faults of two pairs.
use Rattle.std.proofs.Common.{◌≡◌, ◌∙◌, List, [], refl, rules, subst, sym, ℕ}
use Rattle.std.specs.Prelude.{true, false, Option, Result, Ok, Err}
use Rattle.std.proofs.lemmas.List.{append-nil}
use Rattle.aide_conf.specs.declared.options.Options.{Options}
use Rattle.aide_db.specs.Database.{IsSound}
use Rattle.aide_db.specs.DeskView.{DeskView}
use Rattle.aide_db.specs.declared.fault.DbFault.{DbFault}
use Rattle.aide_db.specs.declared.limits.Limits.{Limits}
use Rattle.aide_db.specs.declared.reel.Reel.{Ghosts as Reels}
use Rattle.aide_db.specs.declared.side.Side.TheVariants.{Old}
use Rattle.aide_line_text.specs.declared.counts.LineCounts.{LineCounts}
use Rattle.aide_line_run.specs.ChangeLines.{change_lines}
use Rattle.aide_merge.specs.RunFaults.{HasPenWritten, HasWrittenIfAny}
use Rattle.aide_merge.specs.Standing.{IsFaultOf}
use Rattle.aide_merge.specs.code.MergeCalls.{KeepsMerge}
use Rattle.aide_merge.specs.code.Merging.{limits_at, remaining}
use Rattle.aide_line_run.specs.code.OneReading.{IsFirstOfBoth}
use Rattle.aide_merge.specs.declared.merge.Merge.{Merge}
use Rattle.aide_merge.proofs.BoundLemmas.{fits_further}
use Rattle.aide_merge.proofs.CallLemmas.{merge_none, merge_then}
use Rattle.aide_line_run.proofs.OneReadingLemmas.{settled_first}
use Rattle.aide_merge.proofs.PenLemmas.{counts_of_pen, unfailed, written_of_pen}
use Rattle.aide_merge.proofs.RoomLemmas.{still_fits}
use Rattle.aide_text.specs.Sent.{IsCounted}
use Rattle.aide_text.specs.Sheet.{Sheet, WritesSome, Wrote}
use Rattle.aide_text.specs.declared.pen.Pen.{Pen}
use Rattle.aide_text.proofs.Sheets.{wrote_as, wrote_more}
use Rattle.aide_line_run.specs.Pairs.{CountsPairWrites, OfCompared, OfEach}
use Rattle.aide_line_run.specs.Listed.{ListRead, leaves_between}
use Rattle.aide_line_run.specs.Sought.{sought_by}
use Rattle.aide_line_run.specs.code.Calls.{IsPairStop}
use Rattle.aide_line_run.specs.code.Settled.{AreReadSound, FitsMerges, IsFirstStop, IsPairStopped, IsSettledStop}
use Rattle.aide_line_run.specs.code.Walked.{HasWalked, KeepsMerges}
use Rattle.aide_line_run.specs.Lines.{first_line}
use Rattle.aide_line_run.specs.code.Written.{ArePairsRead, HasToldAll, IsFirstFault, lines_found, pair_fault_of}
use Rattle.aide_line_run.specs.declared.write.PairsFound.{PairsFound}
use Rattle.aide_merge.specs.Asked.{Asked}
use Rattle.aide_line_run.specs.declared.walk.Merges.{Merges}
use Rattle.aide_line_run.specs.declared.walk.PairStop.{PairStop}
use Rattle.aide_line_run.specs.declared.walk.PairStop.TheVariants as stop
use Rattle.aide_line_run.specs.declared.pair_fault.PairFault.{PairFault}
use Rattle.aide_line_run.specs.declared.pair_fault.PairFault.TheVariants.{Compared, Trusted}

-- ---- both desks

-- the trusted merge was read on
pub rest_kept : {R : Type 0} {r : Reels R} {m k : Merges R} {n : Merge R} {d e u v w : DeskView} → KeepsMerges r m k d e u v
    → KeepsMerge r k.trusted n v w → KeepsMerges r m (record { compared = k.compared; trusted = n }) d e u w
rest_kept p q = record { compared = p.compared; trusted = merge_then p.trusted q }

pub fits_kept : {R : Type 0} {r : Reels R} {m n : Merges R} {d e u v : DeskView} → KeepsMerges r m n d e u v
    → FitsMerges r m d e u v
fits_kept p = search rules

pub fits_then : {R : Type 0} {r : Reels R} {m n : Merges R} {d e f u v w : DeskView} → KeepsMerges r m n d e u v
    → FitsMerges r n e f v w → FitsMerges r m d f u w
fits_then {r = r} {m = m} {n = n} {d = d} {e = e} {f = f} {u = u} {v = v} {w = w} p q = search (rules, fits_further)

pub fits_none : {R : Type 0} (r : Reels R) (m : Merges R) (d u : DeskView) → FitsMerges r m d d u u
fits_none r m d u = fits_kept (record { compared = merge_none r m.compared d; trusted = merge_none r m.trusted u })

-- ---- the first stop

-- what is first of what is left is first of all
first_before : {R : Type 0} {r : Reels R} {m k n : Merge R} {d e : DeskView} {first : DbFault} → KeepsMerge r m k d e
    → IsFirstOfBoth r k n e first → IsFirstOfBoth r m n d first
first_before {m = m} {k = k} {d = d} {e = e} {first = first} p is = record {
  first = λ text s. subst (λ (limits : Limits). IsFaultOf limits text first) (p.limits first.side)
      (is.first text (p.stands first.side text s));
  behind = λ new text s. subst (λ (limits : Limits). IsSound limits text) (p.limits Old) (is.behind new text (p.stands Old text s));
  read = is.read;
  memory = λ le. is.memory (λ side. still_fits (limits_at m side) (limits_at k side) d.room e.room (p.limits side) p.room (le side));
}

sound_before : {R : Type 0} {r : Reels R} {m k : Merge R} {d e : DeskView} → KeepsMerge r m k d e
    → AreReadSound r k e → AreReadSound r m d
sound_before p sound side text s =
    subst (λ (limits : Limits). IsSound limits text) (p.limits side) (sound side text (p.stands side text s))

pub stop_settled : {R : Type 0} {r : Reels R} {m k : Merges R} {d e u v : DeskView} (n : Merges R) (f w : DeskView) (pen : Pen)
    (stop first : PairStop)
    → KeepsMerges r m k d e u v → IsPairStop r m k d u pen stop → IsPairStopped r k e stop
    → IsFirstStop r k n e f v w stop first → IsSettledStop r m n d u pen first
stop_settled n f w pen (stop.Compared fault) (stop.Compared first) keeps is stopped settled =
    (is.0, settled_first keeps.compared is.1 stopped settled)
stop_settled n f w pen (stop.Compared fault) (stop.Trusted first) keeps is stopped settled = absurd settled
stop_settled n f w pen (stop.Compared fault) stop.Write keeps is stopped settled = absurd settled
stop_settled n f w pen (stop.Trusted fault) (stop.Compared first) keeps is stopped settled = (is.0, first_before keeps.compared settled)
stop_settled n f w pen (stop.Trusted fault) (stop.Trusted first) keeps is stopped settled =
    (is.0, (settled_first keeps.trusted is.1 stopped.1 settled.0, sound_before keeps.compared settled.1))
stop_settled n f w pen (stop.Trusted fault) stop.Write keeps is stopped settled = absurd settled
stop_settled n f w pen stop.Write (stop.Compared first) keeps is stopped settled = absurd settled
stop_settled n f w pen stop.Write (stop.Trusted first) keeps is stopped settled = absurd settled
stop_settled n f w pen stop.Write stop.Write keeps is stopped settled = is

-- ---- what was written before it

-- a pen that has written these first bytes before
pub walked_behind : {R X E : Type 0} {r : Reels R} {list : ListRead} {options : Options} {counts_in : X → LineCounts} {m : Merges R}
    {d u : DeskView} {a b z : Sheet} {result : Result X E} (first : List ℕ) → Wrote first a b
    → HasWalked r list options [] counts_in m d u b z result → HasWalked r list options first counts_in m d u a z result
walked_behind first before p = search (rules, wrote_more)

-- the first bytes could not be written
pub walked_first : {R X E : Type 0} (r : Reels R) (list : ListRead) (options : Options) (first : List ℕ) (counts_in : X → LineCounts)
    (m : Merges R)
    (d u : DeskView) {a b : Sheet} (stop : E) → Wrote first a b
    → HasWalked {X = X} r list options first counts_in m d u a b (Err stop)
walked_first r list options first counts_in m d u stop wrote = record {
  done = [];
  are = record {
    changes = λ old new s t. (remaining m.compared d old new, refl);
    lines = λ old new trusted_old trusted_new s t x y in_order. (
      change_lines options (sought_by (leaves_between list old new) (remaining m.trusted u trusted_old trusted_new))
          (remaining m.compared d old new),
      refl,
    );
  };
  wrote = wrote_as (sym (append-nil first)) wrote;
  counted = tt;
  counts = tt;
}

-- the numbers with what else was found
pub walked_found : {R X Y E F : Type 0} {r : Reels R} {list : ListRead} {options : Options} {first : List ℕ} {counts_in : X → LineCounts}
    {m : Merges R} {d u : DeskView} {a b : Sheet} (answer : X) (found : Y) (also_in : Y → LineCounts)
    → also_in found ≡ counts_in answer
    → HasWalked {E = E} r list options first counts_in m d u a b (Ok answer)
    → HasWalked {E = F} r list options first also_in m d u a b (Ok found)
walked_found answer found also_in same p = record {
  done = p.done;
  are = record { changes = p.are.changes; lines = p.are.lines };
  wrote = p.wrote;
  counted = same ∙ p.counted;
  counts = λ old new trusted_old trusted_new s t x y in_order. same ∙ p.counts old new trusted_old trusted_new s t x y in_order;
}

-- all lines were made of what was walked and read
pub has_told : {R E : Type 0} {r : Reels R} {list : ListRead} {wish trusted : Asked} {m n : Merges R} {d e u v : DeskView} {a b : Sheet}
    {found : PairsFound} {Goes : List ℕ → Type 0}
    → (walked : HasWalked {E = E} r list wish.options (first_line wish trusted) (λ found. found.counts) m d u a b (Ok found))
    → ArePairsRead r m n d e u v found → Goes (lines_found list wish trusted walked.done found)
    → HasToldAll r list wish trusted m n d e u v found Goes
has_told walked read goes = record {
  read = read;
  done = walked.done;
  are = record { changes = walked.are.changes; lines = walked.are.lines };
  counted = walked.counted;
  counts = walked.counts;
  goes = goes;
}

-- ---- the fault that is returned

pub first_of_stop : {R : Type 0} (r : Reels R) (m n : Merges R) (d u : DeskView) (pen : Pen) (sink : Type 0) (sent : ℕ)
    (stop : PairStop) → (pen.failed ≡ true → sink) → IsSettledStop r m n d u pen stop
    → IsFirstFault r m n d u sink (pair_fault_of stop sent)
first_of_stop r m n d u pen sink sent (stop.Compared first) failed is = is.1
first_of_stop r m n d u pen sink sent (stop.Trusted first) failed is = is.1
first_of_stop r m n d u pen sink sent stop.Write failed is = failed is

-- a fault of a write has the number of bytes that went out; at any other fault no write has failed
abbrev pub HasPairWritten : Pen → PairFault → Type 0
HasPairWritten pen fault = OfEach (HasPenWritten pen) (λ other. pen.failed ≡ false) fault

pub stop_written : {R : Type 0} (r : Reels R) (m n : Merges R) (d u : DeskView) (pen : Pen) (stop : PairStop)
    → IsSettledStop r m n d u pen stop → HasPairWritten pen (pair_fault_of stop pen.sent)
stop_written r m n d u pen (stop.Compared first) is = is.0
stop_written r m n d u pen (stop.Trusted first) is = is.0
stop_written r m n d u pen stop.Write is = (is, refl)

-- what a pen has told of a fault is so of the sink
pub pair_written : (pen : Pen) (before after : Option (List ℕ)) (fault : PairFault) → IsCounted before after 0 pen.sent
    → HasPairWritten pen fault → OfCompared (HasWrittenIfAny before after) fault
pair_written pen before after (Compared fault) counted written = written_of_pen pen before after fault counted written
pair_written pen before after (Trusted fault) counted written = tt

pub pair_counts : {a b : Sheet} (pen : Pen) (fault : PairFault) → b.failed ≡ pen.failed → a.failed ≡ false → WritesSome a b
    → HasPairWritten pen fault → CountsPairWrites {X = ℕ} a.failures b.failures (Err fault)
pair_counts pen (Compared fault) same fresh some written = counts_of_pen pen fault same fresh some written
pair_counts pen (Trusted fault) same fresh some written = unfailed fresh (same ∙ written) some
