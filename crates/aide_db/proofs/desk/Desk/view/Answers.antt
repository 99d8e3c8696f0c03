use Rattle.std.proofs.Common.{rules}
use Rattle.aide_db.proofs.desk.Desk.view.Goals.{in-Old, in-New}
use Rattle.aide_db.proofs.desk.Desk.view.Goals as goal

pub returns-clause-entry : goal.returns-clause-entry
returns-clause-entry g c = search (rules, in-Old, in-New)
