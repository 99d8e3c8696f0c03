use Rattle.std.proofs.Common.{refl}
use Rattle.aide_db.proofs.fault.DeskFault.code.Goals as goal

pub returns : goal.returns
returns c = refl
