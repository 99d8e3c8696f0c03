use Rattle.std.proofs.Common.{rules}
use Rattle.aide_line_run.proofs.settle.settle.Goals as goal

pub returns-in-Compared-clause-first : goal.returns-in-Compared-clause-first
returns-in-Compared-clause-first c = search rules

pub returns-in-Err-clause-first : goal.returns-in-Err-clause-first
returns-in-Err-clause-first c = search rules
