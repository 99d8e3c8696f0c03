use Rattle.std.proofs.Common.{rules}
use Rattle.aide_line_run.proofs.change.is_at.Goals as goal

pub returns-in-Equal : goal.returns-in-Equal
returns-in-Equal c = search rules
