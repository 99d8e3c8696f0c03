use Rattle.std.proofs.Common.{rules}
use Rattle.aide_line_run.proofs.line_counts.add_account.Goals as goal

pub returns-in-Some-Old : goal.returns-in-Some-Old
returns-in-Some-Old c = search rules

pub returns-in-Some-LeftOut : goal.returns-in-Some-LeftOut
returns-in-Some-LeftOut c = search rules
