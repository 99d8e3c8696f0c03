use Rattle.std.proofs.Common.{refl}
use Rattle.aide_db.proofs.cursor.Cursor.fail.Goals as goal

pub returns-clause-stage : goal.returns-clause-stage
returns-clause-stage g c = refl
