use Rattle.std.proofs.Common.{refl}
use Rattle.aide_db.proofs.desk.Desk.new.Goals as goal

pub returns-clause-peak : goal.returns-clause-peak
returns-clause-peak g c = refl
