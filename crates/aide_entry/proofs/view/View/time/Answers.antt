use Rattle.std.proofs.Common.{rules}
use Rattle.aide_entry.proofs.JudgedFields.{ctime_judged}
use Rattle.aide_entry.proofs.view.View.time.Goals as goal

pub returns-in-Some : goal.returns-in-Some
returns-in-Some c = search (rules, ctime_judged)
