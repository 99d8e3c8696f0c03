use Rattle.std.proofs.Common.{rules}
use Rattle.aide_line_run.proofs.list.line_of.Goals as goal

pub returns : goal.returns
returns c = search rules
