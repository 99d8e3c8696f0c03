use Rattle.aide_db.proofs.desk.Desk.reserved.Goals as goal

pub returns-in-Ok-clause-room : goal.returns-in-Ok-clause-room
returns-in-Ok-clause-room g c = c.in-Ok.ensures.room
