use Rattle.aide_db.proofs.cursor.Cursor.has_column.Goals as goal

pub returns : goal.returns
returns g c = rw (← c.self.view_is) c.has.ensures
