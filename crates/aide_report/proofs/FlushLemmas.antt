-- What the flush at the end makes of what was written before it.
use Rattle.std.proofs.Common.{◌≡◌, ℕ, List, Bool, true, false, ap, le_refl, refl, subst, sym, rules}
use Rattle.std.specs.Prelude.{Result, Ok, Err, OnOk}
use Rattle.aide_db.specs.DeskView.{DeskView}
use Rattle.aide_db.specs.declared.limits.Limits.{Limits}
use Rattle.aide_text.specs.Failures.{Rose}
use Rattle.aide_text.specs.PenSheet.{on_sheet}
use Rattle.aide_text.specs.Sent.{Sends}
use Rattle.aide_text.specs.Sheet.{WritesFirst}
use Rattle.aide_text.specs.declared.pen.Pen.{Pen}
use Rattle.aide_text.specs.declared.sink.Sink.{Ghosts as Sinks}
use Rattle.aide_text.proofs.Sheets.{wrote_part}
use Rattle.aide_report_specs.specs.Agreement.{BeginsWith}
use Rattle.aide_report.specs.code.Flushes.{EndsFlushed}
use Rattle.aide_report.specs.code.PassFaults.{Writes}
use Rattle.aide_report.specs.code.Passes.{FlushesOnce, KeepsPen, Passes}
use Rattle.aide_merge.specs.Seen.{Seen}
use Rattle.aide_merge.specs.declared.run_fault.RunFault.{RunFault}
use Rattle.aide_report.proofs.AgreementLemmas.{begins}
use Rattle.aide_merge.proofs.PenLemmas.{unflushed}
use Rattle.aide_report.proofs.PassLemmas.{passes_broken, passes_err, passes_same}
use Rattle.aide_merge.proofs.PenLemmas.{count_of_pen, counts_of_pen, flushed_count, flushed_part}
use Rattle.aide_merge.proofs.PenLemmas.{flushed_whole, never_falls}
use Rattle.aide_merge.proofs.PenLemmas.{rises_by_one, rose_by_one, rose_of_pen, unfailed}
use Rattle.aide_merge.proofs.PenLemmas.{written_of_pen}

-- what is true once all is written is true once it is flushed
pub flushed_after : {W T : Type 0} (s : Sinks W) (a b : W) (sent : ℕ) (Claim : Type 0) (written result : Result T RunFault)
    → EndsFlushed s a b sent written result → OnOk written Claim → OnOk result Claim
flushed_after s a b sent Claim (Ok answer) (Ok done) ends is = is
flushed_after s a b sent Claim (Ok answer) (Err fault) ends is = tt
flushed_after {T = T} s a b sent Claim (Err fault) result ends is = subst (λ (r : Result T RunFault). OnOk r Claim) (sym ends.0) tt

-- from `start`, where the pen is fresh, to `a`, where the writing ends, and to `b`, after the flush
module _ {W : Type 0} (s : Sinks W) (start a b : W) (first pen : Pen) (is_new : first ≡ record { sent = 0; failed = false }) where
  fresh : first.failed ≡ false
  fresh = ap (λ (pen : Pen). pen.failed) is_new

  pub flushed_passes : {T : Type 0} {limits : Limits} {n : ℕ} {x y : Seen} {d e : DeskView} (written result : Result T RunFault)
      → EndsFlushed s a b pen.sent written result → KeepsPen (on_sheet s start first) (on_sheet s a pen) pen written
      → Passes limits n x y d e (pen.failed ≡ true) written
      → Passes limits n x y d e (Rose (s.failures start) (s.failures b)) result
  flushed_passes (Ok answer) (Ok done) ends kept passes = passes_same _ _ refl passes
  flushed_passes {T} {limits} {n} {x} {y} {d} {e} (Ok answer) (Err fault) ends kept passes =
      subst (λ broken. Passes {T = T} limits n x y d e (Rose (s.failures start) (s.failures b)) (Err broken)) (sym ends.breaks)
      (passes_broken _ _ pen.sent (le_refl _) passes (rose_by_one _ _ _ (never_falls fresh kept.some) ends.fails))
  flushed_passes {T} {limits} {n} {x} {y} {d} {e} (Err fault) result ends kept passes = search (rules, passes_err, rose_of_pen, fresh)

  pub flushed_sends : {T : Type 0} (text : List ℕ) (written result : Result T RunFault)
      → EndsFlushed s a b pen.sent written result → KeepsPen (on_sheet s start first) (on_sheet s a pen) pen written
      → Writes written text (on_sheet s start first) (on_sheet s a pen)
      → Sends result text (s.delivered start) (s.delivered b)
  flushed_sends text (Ok answer) (Ok done) ends kept writes = flushed_whole (s.delivered b) fresh kept.writes_on writes ends.bytes
  flushed_sends text (Ok answer) (Err fault) ends kept writes = flushed_part (s.delivered b) fresh kept.writes_on writes ends.bytes
  flushed_sends {T} text (Err fault) result ends kept writes =
      subst (λ sink. Sends result text (s.delivered start) (s.delivered sink)) (sym ends.1)
      (subst (λ (r : Result T RunFault). Sends r text (s.delivered start) (s.delivered a)) (sym ends.0) (wrote_part fresh writes))

  pub flushed_once : {T : Type 0} (written result : Result T RunFault)
      → EndsFlushed s a b pen.sent written result → KeepsPen (on_sheet s start first) (on_sheet s a pen) pen written
      → FlushesOnce s start b result
  flushed_once (Ok answer) (Ok done) ends kept = search (rules, never_falls, fresh, unflushed, unfailed)
  flushed_once {T} (Ok answer) (Err fault) ends kept = search (rules, never_falls, fresh, unflushed, flushed_count, rises_by_one, unfailed)
  flushed_once {T} (Err fault) result ends kept = search (rules, unflushed, written_of_pen, count_of_pen, fresh, never_falls, counts_of_pen)

  pub flushed_begins : {T : Type 0} (text : List ℕ) (more : Bool) (written result : Result T RunFault)
      → EndsFlushed s a b pen.sent written result → KeepsPen (on_sheet s start first) (on_sheet s a pen) pen written
      → OnOk written (WritesFirst text more (on_sheet s start first) (on_sheet s a pen))
      → OnOk result (BeginsWith text more (s.delivered start) (s.delivered b))
  flushed_begins text more (Ok answer) (Ok done) ends kept begun = begins (s.delivered b) fresh kept.writes_on begun ends.bytes
  flushed_begins text more (Ok answer) (Err fault) ends kept begun = tt
  flushed_begins {T} text more (Err fault) result ends kept begun =
      subst (λ (r : Result T RunFault). OnOk r (BeginsWith text more (s.delivered start) (s.delivered b))) (sym ends.0) tt
