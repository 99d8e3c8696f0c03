use Rattle.std.proofs.Common.{rules}
use Rattle.aide_line_run.proofs.line_counts.add_kind.Goals as goal

pub returns-in-Removed : goal.returns-in-Removed
returns-in-Removed c = search rules
