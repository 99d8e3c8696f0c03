use Rattle.std.proofs.Common.{rules}
use Rattle.aide_line_run.proofs.line_counts.no_counts.Goals as goal

pub returns : goal.returns
returns c = search rules
