use Rattle.std.proofs.Common.{rules}
use Rattle.aide_line_run.proofs.line_counts.add_entry.Goals as goal

pub returns-in-Common : goal.returns-in-Common
returns-in-Common c = search rules
