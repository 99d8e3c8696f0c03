use Rattle.std.proofs.Common.{arith}
use Rattle.aide_db.proofs.desk.Desk.held.Goals as goal

pub returns : goal.returns
returns g c = rw (← c.self.view_is) (omega arith)
