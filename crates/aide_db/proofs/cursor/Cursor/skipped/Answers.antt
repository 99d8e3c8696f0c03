use Rattle.aide_db.proofs.cursor.Cursor.skipped.Goals as goal

pub returns : goal.returns
returns g c = rw (← c.self.view_is) c.skipped.ensures
