use Rattle.std.proofs.Common.{◌≡◌, ◌<◌, ◌∙◌, refl, subst, sym}
use Rattle.aide_db.specs.declared.limits.Limits.{Limits}
use Rattle.aide_db.specs.declared.side.Side.TheVariants.{Old}
use Rattle.aide_entry.specs.declared.fault_kind.DbFaultKind.TheVariants.{Read}
use Rattle.aide_merge.specs.Standing.{IsFaultOf}
use Rattle.aide_merge.proofs.BoundLemmas.{within_at}
use Rattle.aide_merge.proofs.FaultLemmas.{none_failed}
use Rattle.aide_merge.proofs.PenLemmas.{rose_by}
use Rattle.aide_merge.proofs.RoomLemmas.{still_fits}
use Rattle.aide_line_run.proofs.in_order.read_old.Goals as goal

pub returns-in-Err-clause-fault : goal.returns-in-Err-clause-fault
returns-in-Err-clause-fault g c =
    let opened = c.start_cursor-cursor.ensures.started (g.S.Sources.bytes_of c.args.sources.now) c.requires.gives in
    let fault = c.in-Err.ensures.fault in
    let reel_failed : c.in-Err.fault.kind ≡ Read → 0 < g.S.R.Reel.failures c.into_reel-in-Err.result =
    λ is. subst (λ reel. 0 < g.S.R.Reel.failures reel) (sym c.into_reel-in-Err.ensures) (fault.read is) in
    record {
      of_side = fault.of_side ∙ opened.of_side;
      first = λ text told. subst (λ (limits : Limits). IsFaultOf limits text c.in-Err.fault) opened.limits_of
          (fault.first text (opened.stands text told));
      caused = λ is. rose_by _ _ _ _ refl (reel_failed is) c.close-in-Err.ensures.adds;
      reliable = λ is read. none_failed _ (c.close-in-Err.ensures.unfailed is) (reel_failed read);
      memory = λ le. fault.memory (still_fits c.args.limits c.start_cursor-cursor.result.limits c.args.desk.now.room
          c.start_cursor-cursor.new.desk.room opened.limits_of c.start_cursor-cursor.ensures.desk.room le);
    }

pub returns-in-Ok-clause-desk : goal.returns-in-Ok-clause-desk
returns-in-Ok-clause-desk g c =
    let opened = c.start_cursor-cursor.ensures.started (g.S.Sources.bytes_of c.args.sources.now) c.requires.gives in
    record {
      room = c.read_to_end.ensures.keeps.room ∙ c.start_cursor-cursor.ensures.desk.room;
      fits = λ old_line new_line before within_old within_new fits. c.read_to_end.ensures.keeps.fits old_line new_line before
          (within_at g.S.R.Reel.to_come c.start_cursor-cursor.result c.start_cursor-cursor.new.desk old_line new_line Old opened.of_side
          (opened.within old_line within_old)) (c.start_cursor-cursor.ensures.desk.fits old_line new_line before fits);
    }

pub returns-in-Err-clause-desk : goal.returns-in-Err-clause-desk
returns-in-Err-clause-desk g c =
    let opened = c.start_cursor-cursor.ensures.started (g.S.Sources.bytes_of c.args.sources.now) c.requires.gives in
    record {
      room = c.read_to_end.ensures.keeps.room ∙ c.start_cursor-cursor.ensures.desk.room;
      fits = λ old_line new_line before within_old within_new fits. c.read_to_end.ensures.keeps.fits old_line new_line before
          (within_at g.S.R.Reel.to_come c.start_cursor-cursor.result c.start_cursor-cursor.new.desk old_line new_line Old opened.of_side
          (opened.within old_line within_old)) (c.start_cursor-cursor.ensures.desk.fits old_line new_line before fits);
    }
