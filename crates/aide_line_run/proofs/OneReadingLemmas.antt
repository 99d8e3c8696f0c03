-- How a run that reads each database once comes to its promise.
use Rattle.std.proofs.Common.{◌≡◌, ◌∙◌, ◌<◌, ◌≤◌, ℕ, List, Option, ap, subst, sym, arith, inl, inr}
use Rattle.std.specs.Prelude.{true, false, Ok}
use Rattle.aide_db.specs.Database.{IsSound}
use Rattle.aide_db.specs.DeskView.{DeskView}
use Rattle.aide_db.specs.declared.fault.DbFault.{DbFault}
use Rattle.aide_db.specs.declared.limits.Limits.{Limits}
use Rattle.aide_db.specs.declared.reel.Reel.{Ghosts as Reels}
use Rattle.aide_db.specs.declared.side.Side.{Side}
use Rattle.aide_db.specs.declared.side.Side.TheVariants.{Old, New}
use Rattle.aide_db.specs.declared.stage.Stage.TheVariants.{Ended as AtEnd}
use Rattle.aide_merge.specs.Bound.{FitsAfterBoth}
use Rattle.aide_merge.specs.Openings.{OpensExactly}
use Rattle.aide_merge.specs.RunFaults.{IsFirst}
use Rattle.aide_merge.specs.Seen.{KeepsSources, Seen}
use Rattle.aide_merge.specs.Standing.{IsFaultOf}
use Rattle.aide_merge.specs.code.MergeCalls.{IsMergeFault, IsOpened, KeepsMerge}
use Rattle.aide_merge.specs.code.Merging.{IsEnded, StandsAt, cursor_at, limits_at, reels_failed}
use Rattle.aide_merge.specs.code.BothRead.{AreReadAt, AreRead}
use Rattle.aide_line_run.specs.code.OneReading.{IsFirstOfBoth, IsOneReadingFault, Reads}
use Rattle.aide_merge.specs.code.ReadFaults.{IsReadFault, IsReadingFault}
use Rattle.aide_merge.specs.code.Settling.{IsSettled, IsStopped}
use Rattle.aide_merge.specs.declared.readings.Readings.{Readings}
use Rattle.aide_merge.specs.code.Desks.{KeepsDesk}
use Rattle.aide_merge.specs.declared.merge.Merge.{Merge}
use Rattle.aide_merge.specs.declared.run_fault.RunFault.{RunFault}
use Rattle.aide_merge.specs.declared.run_fault.RunFault.TheVariants.{Database, Write}
use Rattle.aide_text.specs.Failures.{Rose}
use Rattle.aide_merge.proofs.FaultLemmas.{none_failed, rose_since}
use Rattle.aide_merge.proofs.ReadFaultLemmas.{fault_as, fault_of_new, fault_of_old}
use Rattle.aide_merge.proofs.RoomLemmas.{still_fits}
use Rattle.aide_merge.proofs.StandingLemmas.{ended_at}

pub old_new : Old ≡ New → ⊥
old_new e = cc

true_false : true ≡ false → ⊥
true_false e = cc

-- ---- a merge that has stopped

-- one reel has failed
pub reel_of_both : {R : Type 0} (failures : R → ℕ) (m : Merge R) (side : Side) → 0 < failures (cursor_at m side).reel
    → 0 < reels_failed failures m
reel_of_both failures m Old some = omega (arith, some)
reel_of_both failures m New some = omega (arith, some)

-- the fault that comes first, after all that the merge has passed on
pub settled_first : {R : Type 0} {r : Reels R} {m k n : Merge R} {d e f : DeskView} {fault first : DbFault}
    → KeepsMerge r m k d e → IsMergeFault r m k d fault → IsStopped r k fault → IsSettled r k n e f fault first
    → IsFirstOfBoth r m n d first
settled_first {r = r} {m = m} {k = k} {n = n} {d = d} {e = e} {first = first} p is stopped settled = elim settled.answer [
  | inl stays ↦ subst (λ (f : DbFault). IsFirstOfBoth r m n d f) (sym stays.same) (record {
    first = is.first;
    behind = λ new text s. subst (λ (limits : Limits). IsSound limits text) (p.limits Old) (stays.sound new text (p.stands Old text s));
    read = stays.read;
    memory = is.memory;
  })
  | inr old ↦
      let at : first.side ≡ Old = old.of_side ∙ stopped.old_side in
      record {
        first = λ text s. subst (λ (side : Side). IsFaultOf (limits_at m side) text first) (sym at)
            (subst (λ (limits : Limits). IsFaultOf limits text first) (p.limits Old)
            (old.first text (p.stands Old text (subst (λ (side : Side). StandsAt r.to_come m d side text) at s))));
        behind = λ new. absurd (old_new (sym at ∙ new));
        read = λ read. reel_of_both r.failures n Old (old.read read);
        memory = λ le. old.memory (still_fits (limits_at m Old) (limits_at k Old) d.room e.room (p.limits Old) p.room (le Old));
      }
]

-- ---- a fault

-- of a first reading: it calls no side changed
pub read_once : {limits : Limits} {a b : Seen} {room : ℕ} {sink : Type 0} {fault : RunFault} (side : Side)
    → IsFirst limits a.bytes_of side fault → IsReadFault limits a b room sink fault → IsOneReadingFault limits a b room sink fault
read_once {limits} {a} side first read = record {
  read = read;
  unchanged = λ other is. subst (λ (f : RunFault). IsFirst limits a.bytes_of side f) is first;
}

-- of writing
pub fault_of_write : (limits : Limits) (a b : Seen) (room : ℕ) {sink : Type 0} (written : ℕ) → sink
    → IsOneReadingFault limits a b room sink (Write written)
fault_of_write limits a b room written holds = record {
  read = record {
    right = tt;
    over = λ old new told_old told_new. inr holds;
    refused = tt;
    not_given = tt;
    caused = holds;
    reliable = λ reliable. tt;
    memory = λ le. tt;
  };
  unchanged = λ side is. cc;
}

-- ---- the reading of both sides

opens_kept : {a b c : Side → ℕ} → c ≡ b → OpensExactly a b 1 → OpensExactly a c 1
opens_kept {a} {b} {c} same opens = subst (λ (new : Side → ℕ). OpensExactly a new 1) (sym same) opens

-- another answer
pub once_as : {limits : Limits} {a b : Seen} {room : ℕ} {sink next : Type 0} {fault : RunFault} → (sink → next)
    → IsOneReadingFault limits a b room sink fault → IsOneReadingFault limits a b room next fault
once_as f is = record { read = fault_as f is.read; unchanged = is.unchanged }

pub reads_same : {T U : Type 0} {limits : Limits} {a b : Seen} {d e : DeskView} {sink next : Type 0} {answer : T} {done : U}
    → Reads limits a b d e sink (Ok answer) → Reads limits a b d e next (Ok done)
reads_same p = record { sources = p.sources; desk = p.desk; opens = p.opens; opens_some = p.opens_some; fault = tt }

-- a merge was begun, and has kept the desk
pub desk_read : {R : Type 0} {r : Reels R} {limits : Limits} {bytes_of : Side → Option (List ℕ)} {m : Merge R} {d e f : DeskView}
    → KeepsDesk limits bytes_of d e → IsOpened r limits bytes_of m e → f.room ≡ e.room → FitsAfterBoth r.to_come m e f
    → KeepsDesk limits bytes_of d f
desk_read p opened room fits = record {
  room = room ∙ p.room;
  fits = λ old_line new_line before within_old within_new before_it. fits old_line new_line before
      (opened.within_old old_line within_old) (opened.within_new new_line within_new)
      (p.fits old_line new_line before within_old within_new before_it);
}

module _ {R : Type 0} {r : Reels R} {limits : Limits} {a b c : Seen} {e : DeskView} {m n : Merge R} {sink : Type 0} {before : ℕ}
    (sources : KeepsSources a b) (closes : KeepsSources b c) (there : (side : Side) → a.is_missing side ≡ false)
    (opened : IsOpened r limits a.bytes_of m e) (room : e.room ≡ before) where
  read_at : (side : Side) (fault : DbFault) → fault.side ≡ side → IsFirstOfBoth r m n e fault
      → IsReadingFault limits a c side before (Database fault) → IsReadFault limits a c before sink (Database fault)
  read_at Old fault at is reading = fault_of_old tt reading
  read_at New fault at is reading = fault_of_new (λ text told. subst (λ (l : Limits). IsSound l text) (opened.limits_of Old)
      (is.behind at text (opened.stands Old text told))) (there Old) tt reading

  pub stops_at : (side : Side) (fault : DbFault) → fault.side ≡ side
      → (0 < reels_failed r.failures n → Rose b.failures c.failures) → (b.is_reliable ≡ true → reels_failed r.failures n ≡ 0)
      → IsFirstOfBoth r m n e fault → IsOneReadingFault limits a c before sink (Database fault)
  stops_at side fault at rose unfailed is =
      let reading : IsReadingFault limits a c side before (Database fault) = record {
        first = (
          at,
          λ text told. subst (λ (l : Limits). IsFaultOf l text fault) (opened.limits_of fault.side)
              (is.first text (opened.stands fault.side text (ap a.bytes_of at ∙ told))),
        );
        not_given = tt;
        caused = λ read. rose_since a.failures b.failures c.failures sources.never_falls (rose (is.read read));
        missing = λ gone. absurd (true_false (sym gone ∙ there side));
        reliable = λ reliable read. none_failed (reels_failed r.failures n) (unfailed (sources.reliable_same ∙ reliable)) (is.read read);
        memory = λ le. is.memory (λ side. still_fits limits (limits_at m side) before e.room (opened.limits_of side) room le);
      } in
      read_once side reading.first (read_at side fault at is reading)

pub rose_more : (before middle after : ℕ) → Rose before middle → middle ≤ after → Rose before after
rose_more before middle after rose le below = let risen = rose (omega (arith, le, below)) in omega (arith, le, risen)

ended_side : {R : Type 0} (m : Merge R) → IsEnded m → (side : Side) → (cursor_at m side).stage ≡ AtEnd
ended_side m ended Old = ended.old_ended
ended_side m ended New = ended.new_ended

-- the texts of a merge that has come to its end
pub ends_sound : {R : Type 0} {r : Reels R} {m n : Merge R} {d e : DeskView} → KeepsMerge r m n d e → IsEnded n → (side : Side)
    (text : List ℕ) → StandsAt r.to_come m d side text → IsSound (limits_at m side) text
ends_sound {r = r} {n = n} {e = e} keeps ended side text s = subst (λ (l : Limits). IsSound l text) (keeps.limits side)
    (ended_at r.to_come (cursor_at n side) e text (ended_side n ended side) (keeps.stands side text s)).0

-- both databases were read to their ends
pub are_read : {R : Type 0} {r : Reels R} {limits : Limits} {a : Seen} {m n : Merge R} {e f : DeskView} {readings : Readings}
    → ((side : Side) → a.is_missing side ≡ false) → IsOpened r limits a.bytes_of m e → KeepsMerge r m n e f → IsEnded n
    → AreReadAt r n f readings → AreRead limits a readings
are_read {r = r} {n = n} {f = f} there opened keeps ended read = record {
  sound = λ side text told. subst (λ (l : Limits). IsSound l text) (opened.limits_of side)
      (ends_sound keeps ended side text (opened.stands side text told));
  there = there;
  skipped_old = λ text told. read.skipped_old text (keeps.stands Old text (opened.stands Old text told));
  skipped_new = λ text told. read.skipped_new text (keeps.stands New text (opened.stands New text told));
  digests = λ side text told. read.digests side text (keeps.stands side text (opened.stands side text told));
}
