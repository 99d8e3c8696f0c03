use Rattle.std.proofs.Common.{rules}
use Rattle.aide_db.proofs.FaultLaws.{inside_to}
use Rattle.aide_merge.proofs.CallLemmas.{cursor_next}
use Rattle.aide_merge.proofs.StandingLemmas.{given_entry, shown_entry, unfailed_entries}
use Rattle.aide_merge.proofs.RoomLemmas.{not_memory}
use Rattle.aide_merge.proofs.merge.advance.Goals as goal

pub returns-in-Ok-Record-clause-keeps : goal.returns-in-Ok-Record-clause-keeps
returns-in-Ok-Record-clause-keeps g c =
    let next = c.in-Ok-Record.ensures in cursor_next next.text next.outcome next.cursor next.desk

pub returns-in-Ok-Record-clause-advanced : goal.returns-in-Ok-Record-clause-advanced
returns-in-Ok-Record-clause-advanced g c = search (rules, unfailed_entries, shown_entry, given_entry)

pub returns-in-Ok-End-clause-keeps : goal.returns-in-Ok-End-clause-keeps
returns-in-Ok-End-clause-keeps g c =
    let next = c.in-Ok-End.ensures in cursor_next next.text next.outcome next.cursor next.desk

pub returns-in-Ok-End-clause-advanced : goal.returns-in-Ok-End-clause-advanced
returns-in-Ok-End-clause-advanced g c = search rules

pub returns-in-Err-clause-keeps : goal.returns-in-Err-clause-keeps
returns-in-Err-clause-keeps g c =
    let next = c.in-Err.ensures in cursor_next next.text next.outcome next.cursor next.desk

pub returns-in-Err-clause-fault : goal.returns-in-Err-clause-fault
returns-in-Err-clause-fault g c = record {
  of_side = search rules;
  first = λ text stands outside. inside_to c.in-Err.fault.kind _ _ outside (c.in-Err.ensures.text text stands).answers.0;
  read = search rules;
  memory = λ le. not_memory c.args.cursor.now.stage c.in-Err.fault c.requires (c.in-Err.ensures.outcome.memory le);
}
