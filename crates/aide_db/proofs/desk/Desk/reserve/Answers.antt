use Rattle.std.proofs.Common.{refl}
use Rattle.aide_db.proofs.desk.Desk.reserve.Goals as goal

pub returns-clause-room : goal.returns-clause-room
returns-clause-room g c = refl
