use Rattle.std.proofs.Common.{rules}
use Rattle.aide_line_run.proofs.trusted.account_of.Goals as goal

pub returns-in-Some : goal.returns-in-Some
returns-in-Some c = search rules

pub returns-in-Some-line_of : goal.returns-in-Some-line_of
returns-in-Some-line_of c = search rules
