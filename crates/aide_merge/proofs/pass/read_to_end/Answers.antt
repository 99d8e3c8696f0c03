use Rattle.std.proofs.Common.{rules, subst}
use Rattle.aide_db.proofs.FaultLaws.{inside_to}
use Rattle.aide_db.specs.Database.{IsFirstFault}
use Rattle.aide_db.specs.declared.limits.Limits.{Limits}
use Rattle.aide_merge.proofs.CallLemmas.{cursor_next, cursor_none, cursor_then}
use Rattle.aide_merge.proofs.StandingLemmas.{unfailed_entries}
use Rattle.aide_merge.proofs.RoomLemmas.{not_memory, still_fits}
use Rattle.aide_merge.proofs.pass.read_to_end.Goals as goal

pub read-init : goal.read-init
read-init g c = record { keeps = cursor_none g.R.Reel c.args.cursor.now c.args.desk.now; unfailed = c.requires }

pub read-preserved : goal.read-preserved
read-preserved g c =
    let next = c.in-Ok-Record.ensures in
    let stage = rw c.in-Ok-Record.field-0-is at next.outcome.stage in
    record {
      keeps = cursor_then c.read.invariant.keeps (cursor_next next.text next.outcome next.cursor next.desk);
      unfailed = unfailed_entries c.next.new.self.stage stage;
    }

pub returns-in-Ok-End-clause-keeps : goal.returns-in-Ok-End-clause-keeps
returns-in-Ok-End-clause-keeps g c =
    let next = c.in-Ok-End.ensures in
    cursor_then c.read.invariant.keeps (cursor_next next.text next.outcome next.cursor next.desk)

pub returns-in-Err-clause-keeps : goal.returns-in-Err-clause-keeps
returns-in-Err-clause-keeps g c =
    let next = c.in-Err.ensures in
    cursor_then c.read.invariant.keeps (cursor_next next.text next.outcome next.cursor next.desk)

pub returns-in-Err-clause-fault : goal.returns-in-Err-clause-fault
returns-in-Err-clause-fault g c =
    let keeps = c.read.invariant.keeps in
    record {
      of_side = search rules;
      first = λ text stands outside. let answer = (c.in-Err.ensures.text text (keeps.stands text stands)).answers in
          subst (λ (limits : Limits). IsFirstFault limits text c.in-Err.fault.line c.in-Err.fault.kind) keeps.limits
          (inside_to c.in-Err.fault.kind _ _ outside answer.0);
      read = search rules;
      memory = λ le. not_memory c.read.cursor.stage c.in-Err.fault c.read.invariant.unfailed
          (c.in-Err.ensures.outcome.memory (still_fits c.args.cursor.now.limits c.read.cursor.limits c.args.desk.now.room c.read.desk.room
          keeps.limits keeps.room le));
    }
