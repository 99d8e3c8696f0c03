-- What was written of both pairs, by what has been written and what was found.
use Rattle.std.specs.Prelude.{◌≡◌, ℕ, List, ◌++◌, Option, Result, Ok, Err, IfErr, OnOk, true, ⊤}
use Rattle.aide_db.specs.DeskView.{DeskView}
use Rattle.aide_db.specs.declared.reel.Reel.{Ghosts as Reels}
use Rattle.aide_merge.specs.Asked.{Asked}
use Rattle.aide_merge.specs.RunFaults.{HasWrittenIfAny}
use Rattle.aide_line_run.specs.code.LineTally.{tally}
use Rattle.aide_merge.specs.code.Merging.{IsEnded}
use Rattle.aide_merge.specs.code.BothRead.{AreReadAt}
use Rattle.aide_line_run.specs.code.OneReading.{IsFirstOfBoth, new_read, old_read}
use Rattle.aide_merge.specs.declared.run_fault.RunFault.TheVariants.{Database, Write}
use Rattle.aide_text.specs.Failures.{CountsFlush}
use Rattle.aide_text.specs.Sent.{SendsPart}
use Rattle.aide_text.specs.declared.sink.Sink.{Ghosts as Sinks}
use Rattle.aide_line_run.specs.Lines.{PairFacts, last_line, first_line}
use Rattle.aide_line_run.specs.Pairs.{CountsPairWrites, OfCompared}
use Rattle.aide_line_run.specs.Listed.{ListRead}
use Rattle.aide_line_run.specs.Sought.{Accounted, accounted_lines, sought_by}
use Rattle.aide_line_run.specs.code.Over.{AreDone, OverMerges}
use Rattle.aide_line_run.specs.code.Settled.{AreReadSound}
use Rattle.aide_line_run.specs.code.Tallied.{tally_of}
use Rattle.aide_line_run.specs.code.Walked.{KeepsMerges}
use Rattle.aide_line_run.specs.declared.pair_fault.PairFault.{PairFault}
use Rattle.aide_line_run.specs.declared.pair_fault.PairFault.TheVariants.{Compared, Trusted}
use Rattle.aide_line_run.specs.declared.walk.Merges.{Merges}
use Rattle.aide_line_run.specs.declared.walk.PairStop.{PairStop}
use Rattle.aide_line_run.specs.declared.walk.PairStop.TheVariants as stop
use Rattle.aide_line_run.specs.declared.write.PairsFound.{PairsFound}

-- what the last line says about all four databases
abbrev pub facts_found : PairsFound → PairFacts
facts_found found = record {
  of_old = old_read found.compared;
  of_new = new_read found.compared;
  of_trusted_old = old_read found.trusted;
  of_trusted_new = new_read found.trusted;
}

-- what has been written, but the last line
abbrev pub lines_begun : (asked trusted : Asked) → List Accounted → List ℕ
lines_begun asked trusted done = first_line asked trusted ++ accounted_lines asked.options done

-- all lines
abbrev pub lines_found : ListRead → (asked trusted : Asked) → List Accounted → PairsFound
    → List ℕ
lines_found list asked trusted done found = lines_begun asked trusted done
    ++ last_line list (facts_found found) found.counts

-- Both pairs were read to their ends.
pub record ArePairsRead {R : Type 0} (r : Reels R) (m n : Merges R) (d e u v : DeskView)
    (found : PairsFound) : Type 0 where
  pub keeps : KeepsMerges r m n d e u v
  pub ended : IsEnded n.compared
  pub trusted_ended : IsEnded n.trusted
  pub read : AreReadAt r n.compared e found.compared
  pub trusted_read : AreReadAt r n.trusted v found.trusted

-- All lines have been made, of these changes.
pub record HasToldAll {R : Type 0} (r : Reels R) (list : ListRead)
    (asked trusted : Asked) (m n : Merges R) (d e u v : DeskView) (found : PairsFound)
    (Goes : List ℕ → Type 0) : Type 0 where
  pub read : ArePairsRead r m n d e u v found
  pub done : List Accounted
  pub are : AreDone {X = PairsFound} {E = PairFault} r list asked.options m d u done (Ok found)
  pub counted : found.counts ≡ tally_of asked.options done
  pub counts : OverMerges r list m.compared d m.trusted u (λ leaves all trusted_changes.
      found.counts ≡ tally asked.options (sought_by leaves trusted_changes) all)
  pub goes : Goes (lines_found list asked trusted done found)

-- A beginning of the lines has been written, and no byte of the last one.
pub record CutsChanges {R : Type 0} (r : Reels R) (list : ListRead) (asked trusted : Asked)
    (m : Merges R) (d u : DeskView) (before after : Option (List ℕ))
    (fault : PairFault) : Type 0 where
  pub done : List Accounted
  pub are : AreDone {X = PairsFound} r list asked.options m d u done (Err fault)
  pub part : SendsPart (lines_begun asked trusted done) before after

-- a write
abbrev pub IsWrite : PairFault → Type 0
IsWrite (Compared (Write written)) = ⊤
IsWrite _ = ⊥

-- A write of the last line has failed, or the flush after it.
pub record CutsLast {R : Type 0} (r : Reels R) (list : ListRead) (asked trusted : Asked)
    (m n : Merges R) (d e u v : DeskView) (before after : Option (List ℕ))
    (fault : PairFault) : Type 0 where
  pub written : IsWrite fault
  pub found : PairsFound
  pub told : HasToldAll r list asked trusted m n d e u v found (λ text. SendsPart text before after)

-- why the writing ends: the first fault of all four databases, or a failed write
abbrev pub IsFirstFault : {R : Type 0} → Reels R → (m n : Merges R) → (d u : DeskView)
    → (sink : Type 0) → PairFault
    → Type 0
IsFirstFault r m n d u sink (Compared (Database first)) =
    IsFirstOfBoth r m.compared n.compared d first
IsFirstFault r m n d u sink (Compared (Write written)) = sink
IsFirstFault r m n d u sink (Trusted (Database first)) =
    IsFirstOfBoth r m.trusted n.trusted u first × AreReadSound r m.compared d
IsFirstFault r m n d u sink _ = ⊥

-- the fault that the run returns, with the number of bytes that have been written
abbrev pub pair_fault_of : PairStop → ℕ → PairFault
pair_fault_of (stop.Compared fault) sent = Compared (Database fault)
pair_fault_of (stop.Trusted fault) sent = Trusted (Database fault)
pair_fault_of stop.Write sent = Compared (Write sent)

-- What all lines leave of the sink.
pub record FlushesPair {W X : Type 0} (w : Sinks W) (a b : W)
    (result : Result X PairFault) : Type 0 where
  -- after `Ok` the sink was flushed after its last byte
  pub flushed : OnOk result (w.is_flushed b ≡ true)
  -- it was flushed once, and after a fault not at all
  pub flushes : CountsFlush (w.flushes a) (w.flushes b) result
  -- a fault of a write names the number of bytes that were written
  pub written : IfErr result (OfCompared (HasWrittenIfAny (w.delivered a) (w.delivered b)))
  -- a failed write or flush is reported, and none is tried again
  pub fails : CountsPairWrites (w.failures a) (w.failures b) result
