use Rattle.std.proofs.Common.{refl}
use Rattle.aide_db.proofs.desk.Desk.peak.Goals as goal

pub returns : goal.returns
returns g c = rw (← c.self.view_is) refl
