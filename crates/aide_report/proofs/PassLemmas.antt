-- What passes keep: none, one after others, one that stops early, and a merge between its opening and its closing.
use Rattle.std.specs.Prelude.{ℕ, ◌≡◌, ◌<◌, ◌≤◌, ◌+◌, ◌++◌, true, false, Option, List, Result, Ok, Err}
use Rattle.std.proofs.Common.{refl, sym, subst, arith, ◌∙◌, rules}
use Rattle.aide_db.specs.Answer.{StandsFor}
use Rattle.aide_db.specs.Desk.{columns_of_side, list_of}
use Rattle.aide_db.specs.DeskView.{DeskView}
use Rattle.aide_db.specs.declared.fault.DbFault.{DbFault}
use Rattle.aide_db.specs.declared.limits.Limits.{Limits}
use Rattle.aide_db.specs.declared.reel.Reel.{Ghosts as Reels}
use Rattle.aide_db.specs.declared.side.Side.{Side}
use Rattle.aide_db.specs.declared.side.Side.TheVariants.{Old}
use Rattle.aide_text.specs.Failures.{Rose}
use Rattle.aide_text.specs.Sheet.{Sheet, WritesSome, Wrote}
use Rattle.aide_text.specs.declared.pen.Pen.{Pen}
use Rattle.aide_text.proofs.Sheets.{part_after, part_as, some_more, wrote_as, wrote_more}
use Rattle.aide_report.specs.code.LaterFault.{later_of}
use Rattle.aide_entry.specs.declared.column.Column.{Column}
use Rattle.sha2.specs.Sha256.{sha256}
use Rattle.aide_merge.specs.code.Digests.{AreDigests, digest_on}
use Rattle.aide_merge.specs.code.Merging.{cursor_at, limits_at, reels_failed}
use Rattle.aide_merge.specs.declared.digests.Digests.{Digests}
use Rattle.aide_merge.specs.RightAnswer.{IsOfReliable}
use Rattle.aide_merge.specs.Openings.{IsNotGiven, IsRefusedThere, OpensExactly}
use Rattle.aide_merge.specs.Room.{IsNotOfMemory}
use Rattle.aide_merge.specs.code.MergeCalls.{IsOpened, KeepsMerge, IsMergeFault}
use Rattle.aide_report.specs.code.PassFaults.{IsStopOf, Writes, pass_fault_of}
use Rattle.aide_merge.specs.code.Desks.{KeepsDesk}
use Rattle.aide_report.specs.code.Passes.{KeepsPen, IsPassFault, Passes}
use Rattle.aide_merge.specs.Seen.{Seen, KeepsSources}
use Rattle.aide_merge.specs.RunFaults.{HasPenWritten, IsCaused}
use Rattle.aide_merge.specs.Standing.{IsFaultOf}
use Rattle.aide_report.specs.declared.change_writer.PassFault.{PassFault}
use Rattle.aide_report.specs.declared.change_writer.PassFault.TheVariants as passes
use Rattle.aide_merge.specs.declared.merge.Merge.{Merge}
use Rattle.aide_merge.specs.declared.run_fault.RunFault.{RunFault}
use Rattle.aide_merge.specs.declared.run_fault.RunFault.TheVariants.{Changed, Write}
use Rattle.aide_report.proofs.FaultLemmas.{later_fault, later_is, rose_later}
use Rattle.aide_merge.proofs.FaultLemmas.{none_failed, rose_since}
use Rattle.aide_report.proofs.OpeningLemmas.{comes_later, comes_opened, refused_later}
use Rattle.aide_merge.proofs.PenLemmas.{caused_as}
use Rattle.aide_merge.proofs.RoomLemmas.{still_fits}
use Rattle.aide_report.proofs.SectionsLemmas.{opens_more, opens_none, opens_then}
use Rattle.aide_merge.proofs.KeepLemmas.{desk_none, desk_then, sources_none, sources_then}

-- ---- the parts of the frame, one after the other

-- a fault of a pass after others, or after the first readings
pub fault_then : {limits : Limits} {a b c : Seen} {room room_now : ℕ} {sink : Type 0} {fault : RunFault} (n : ℕ)
    → KeepsSources a b → OpensExactly a.openings b.openings n → room_now ≡ room
    → IsPassFault limits b c room_now sink fault → IsPassFault limits a c room sink fault
fault_then {limits} {a} {b} {c} {room} {room_now} {sink} {fault} n keeps opens kept is =
    search (rules, comes_later, refused_later, rose_later, rose_since)

-- ---- passes, one after the other

pub passes_none : {T : Type 0} {answer : T} {sink : Type 0} (limits : Limits) (n : ℕ) (a : Seen) (d : DeskView) → n ≡ 0
    → Passes limits n a a d d sink (Ok answer)
passes_none limits n a d none = search (rules, sources_none, desk_none, opens_none)

-- further passes
pub passes_then : {T U V : Type 0} {limits : Limits} {a b c : Seen} {d e f : DeskView} {sink next last : Type 0} {answer : T} {then : U}
    {done : V} (m n k : ℕ) → k ≡ m + n → Passes limits m a b d e sink (Ok answer) → Passes limits n b c e f next (Ok then)
    → Passes limits k a c d f last (Ok done)
passes_then {a = a} {b = b} {c = c} m n k is p q = search (rules, sources_then, desk_then, opens_more, opens_then)

-- as many passes
pub passes_same : {T U : Type 0} {limits : Limits} {a b : Seen} {d e : DeskView} {sink next : Type 0} {answer : T} {done : U}
    (n k : ℕ) → k ≡ n → Passes limits n a b d e sink (Ok answer) → Passes limits k a b d e next (Ok done)
passes_same n k is p = search rules

-- the same, where the further ones are broken off
pub passes_stop : {T U : Type 0} {limits : Limits} {a b c : Seen} {d e f : DeskView} {sink next : Type 0} {answer : T}
    {fault : RunFault} (m n k : ℕ) → m + n ≤ k → Passes limits m a b d e sink (Ok answer)
    → Passes {T = U} limits n b c e f next (Err fault) → Passes {T = U} limits k a c d f next (Err fault)
passes_stop {a = a} {b = b} {c = c} m n k le p q = search (rules, sources_then, desk_then, opens_then, fault_then)

-- a write behind them fails
pub passes_broken : {T U : Type 0} {limits : Limits} {a b : Seen} {d e : DeskView} {sink broken : Type 0} {answer : T}
    (n k written : ℕ) → n ≤ k → Passes limits n a b d e sink (Ok answer) → broken
    → Passes {T = U} limits k a b d e broken (Err (Write written))
passes_broken {a = a} {b = b} n k written le p is = search rules

-- as many passes, with this answer
pub passes_count : {T : Type 0} {limits : Limits} {a b : Seen} {d e : DeskView} {sink : Type 0} {result : Result T RunFault}
    (n k : ℕ) → k ≡ n → Passes limits n a b d e sink result → Passes limits k a b d e sink result
passes_count {limits = limits} {a = a} {b = b} {d = d} {e = e} {sink = sink} {result = result} n k is p =
    subst (λ m. Passes limits m a b d e sink result) (sym is) p

-- a fault of passes with another answer
pub passes_err : {T U : Type 0} {limits : Limits} {n : ℕ} {a b : Seen} {d e : DeskView} {sink next : Type 0} {fault : RunFault}
    → (sink → next) → Passes {T = T} limits n a b d e sink (Err fault) → Passes {T = U} limits n a b d e next (Err fault)
passes_err {a = a} {b = b} {sink = sink} {next = next} {fault = fault} f p = search (rules, caused_as)

-- ---- a merge, between its opening and its closing

desk_merged : {R : Type 0} {r : Reels R} {limits : Limits} {bytes_of : Side → Option (List ℕ)} {m n : Merge R} {d e f : DeskView}
    → KeepsDesk limits bytes_of d e → IsOpened r limits bytes_of m e → KeepsMerge r m n e f → KeepsDesk limits bytes_of d f
desk_merged p opened keeps = record {
  room = keeps.room ∙ p.room;
  fits = λ old_line new_line before within_old within_new fits. keeps.fits old_line new_line before
      (opened.within_old old_line within_old) (opened.within_new new_line within_new)
      (p.fits old_line new_line before within_old within_new fits);
}

opens_kept : {a b c : Side → ℕ} → c ≡ b → OpensExactly a b 1 → OpensExactly a c 1
opens_kept {a} {b} {c} same opens = subst (λ (new : Side → ℕ). OpensExactly a new 1) (sym same) opens

-- the merge has come to its end
pub pass_done : {T U R : Type 0} {r : Reels R} {limits : Limits} {a b c : Seen} {d e f : DeskView} {sink next : Type 0}
    {m n : Merge R} {reels : T} {done : U} → Passes limits 1 a b d d sink (Ok reels) → KeepsDesk limits a.bytes_of d e
    → IsOpened r limits a.bytes_of m e → KeepsMerge r m n e f → KeepsSources b c → c.openings ≡ b.openings
    → Passes limits 1 a c d f next (Ok done)
pass_done {a = a} {b = b} {c = c} p begun opened keeps closes same =
    let opens = opens_kept same p.opens in
    record {
      sources = sources_then p.sources closes;
      desk = desk_merged begun opened keeps;
      opens = opens;
      opens_some = record { of_old = omega (arith, opens.of_old); of_new = omega (arith, opens.of_new) };
      fault = tt;
    }

-- any other end of it
pass_ends : {T U R : Type 0} {r : Reels R} {limits : Limits} {a b c : Seen} {d e f : DeskView} {sink next : Type 0}
    {m n : Merge R} {reels : T} {fault : RunFault} → Passes limits 1 a b d d sink (Ok reels) → KeepsDesk limits a.bytes_of d e
    → IsOpened r limits a.bytes_of m e → KeepsMerge r m n e f → KeepsSources b c → c.openings ≡ b.openings
    → IsPassFault limits a c d.room next fault → Passes {T = U} limits 1 a c d f next (Err fault)
pass_ends p begun opened keeps closes same is =
    let opens = opens_kept same p.opens in
    record {
      sources = sources_then p.sources closes;
      desk = desk_merged begun opened keeps;
      opens = tt;
      opens_some = record { of_old = omega (arith, opens.of_old); of_new = omega (arith, opens.of_new) };
      fault = is;
    }

-- a side has another digest than before
pub pass_changed : {T U R : Type 0} {r : Reels R} {limits : Limits} {a b c : Seen} {d e f : DeskView} {sink next : Type 0}
    {m n : Merge R} {reels : T} {side : Side} {digests : Digests} → Passes limits 1 a b d d sink (Ok reels)
    → KeepsDesk limits a.bytes_of d e → IsOpened r limits a.bytes_of m e → KeepsMerge r m n e f → KeepsSources b c
    → c.openings ≡ b.openings
    → ((list : List ℕ) (under : List Column) (text : List ℕ) → StandsFor r.to_come (cursor_at n side) list under text
    → digest_on digests side ≡ sha256 text → ⊥)
    → AreDigests a.bytes_of digests → Passes {T = U} limits 1 a c d f next (Err (Changed side))
pass_changed {f = f} {n = n} {side = side} p begun opened keeps closes same changed digests =
    let opens = opens_kept same p.opens in
    let cursor = cursor_at n side in
    pass_ends p begun opened keeps closes same (record {
      begun = record { passes = 0; of_old = opens.of_old };
      refused = tt;
      not_given = tt;
      later = λ text told sound. changed (list_of cursor.side f) (columns_of_side cursor.side f) text
          (keeps.stands side text (opened.stands side text told)) (digests side text told);
      caused = tt;
      reliable = λ reliable. tt;
      memory = λ le. tt;
    })

-- the merge has ended in a fault
pub pass_failed : {T U R : Type 0} {r : Reels R} {limits : Limits} {a b c : Seen} {d e f : DeskView} {sink next : Type 0}
    {m n : Merge R} {reels : T} {fault : DbFault} → Passes limits 1 a b d d sink (Ok reels) → KeepsDesk limits a.bytes_of d e
    → IsOpened r limits a.bytes_of m e → KeepsMerge r m n e f → KeepsSources b c → c.openings ≡ b.openings
    → (0 < reels_failed r.failures n → Rose b.failures c.failures) → (b.is_reliable ≡ true → reels_failed r.failures n ≡ 0)
    → IsMergeFault r m n e fault → Passes {T = U} limits 1 a c d f next (Err (later_of fault))
pass_failed {r = r} {limits = limits} {a = a} {b = b} {c = c} {d = d} {e = e} {next = next} {m = m} {n = n}
    {fault = fault} p begun opened keeps closes same rose unfailed is =
    let opens = opens_kept same p.opens in
    pass_ends p begun opened keeps closes same (record {
      begun = comes_opened (a.openings Old) (c.openings Old) (later_of fault) opens.of_old;
      refused = later_is (IsRefusedThere a.openings c.openings) fault tt tt;
      not_given = later_is (IsNotGiven c.was_given) fault tt tt;
      later = later_fault limits a.bytes_of fault (λ text told. subst (λ (l : Limits). IsFaultOf l text fault) (opened.limits_of fault.side)
          (is.first text (opened.stands fault.side text told)));
      caused = later_is (IsCaused (Rose a.failures c.failures) next) fault tt
          (λ read. rose_since a.failures b.failures c.failures p.sources.never_falls (rose (is.read read)));
      reliable = λ reliable. later_is (IsOfReliable a.bytes_of) fault tt
          (λ read. none_failed (reels_failed r.failures n) (unfailed (p.sources.reliable_same ∙ reliable)) (is.read read));
      memory = λ le. later_is IsNotOfMemory fault tt
          (is.memory (λ side. still_fits limits (limits_at m side) d.room e.room (opened.limits_of side) begun.room le));
    })

-- the same, or a write has failed
pub pass_stopped : {T U R : Type 0} {r : Reels R} {limits : Limits} {a b c : Seen} {d e f : DeskView} {sink : Type 0}
    {m n : Merge R} {reels : T} (fault : PassFault) (sent : ℕ) (pen : Pen) → Passes limits 1 a b d d sink (Ok reels)
    → KeepsDesk limits a.bytes_of d e → IsOpened r limits a.bytes_of m e → KeepsMerge r m n e f → KeepsSources b c → c.openings ≡ b.openings
    → (0 < reels_failed r.failures n → Rose b.failures c.failures) → (b.is_reliable ≡ true → reels_failed r.failures n ≡ 0)
    → IsStopOf r m n e pen fault
    → Passes {T = U} limits 1 a c d f (pen.failed ≡ true) (Err (pass_fault_of fault sent))
pass_stopped (passes.Database fault) sent pen p begun opened keeps closes same rose unfailed is =
    pass_failed p begun opened keeps closes same rose unfailed is.1
pass_stopped passes.Write sent pen p begun opened keeps closes same rose unfailed is =
    pass_ends p begun opened keeps closes same
    (record { begun = tt; refused = tt; not_given = tt; later = tt; caused = is; reliable = λ reliable. tt; memory = λ le. tt })

-- a pass that stops has told what was written
pub stop_written : {R : Type 0} (r : Reels R) (m n : Merge R) (d : DeskView) (pen : Pen) (fault : PassFault)
    → IsStopOf r m n d pen fault → HasPenWritten pen (pass_fault_of fault pen.sent)
stop_written r m n d pen (passes.Database fault) is = later_is (HasPenWritten pen) fault is.0 is.0
stop_written r m n d pen passes.Write is = (is, refl)

-- nor where no sink was there to fail
pub unwritten : (sources : Type 0) (pen : Pen) (fault : RunFault) → pen.failed ≡ false → IsCaused sources ⊥ fault
    → HasPenWritten pen fault
unwritten sources pen (Write written) on is = absurd is
unwritten sources pen _ on is = on

-- a pen that has written before
pub pen_then : {T : Type 0} {a b e : Sheet} {pen : Pen} {result : Result T RunFault} → WritesSome a b
    → KeepsPen b e pen result → KeepsPen a e pen result
pen_then some p = record { some = some_more some p.some; writes_on = p.writes_on; written = p.written }

-- ---- what is written

-- behind other text
pub writes_behind : {T E : Type 0} {text : List ℕ} {a b : Sheet} (more : List ℕ) (e : Sheet) → Wrote text a b → (result : Result T E)
    → Writes result more b e
    → Writes result (text ++ more) a e
writes_behind more e wrote (Ok answer) writes = wrote_more wrote writes
writes_behind more e wrote (Err fault) writes = part_after wrote writes

-- the same text
pub writes_same : {T E : Type 0} {text same : List ℕ} (a b : Sheet) → same ≡ text → (result : Result T E) → Writes result text a b
    → Writes result same a b
writes_same a b is (Ok answer) writes = wrote_as (sym is) writes
writes_same a b is (Err fault) writes = part_as (sym is) writes
