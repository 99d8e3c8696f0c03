use Rattle.std.proofs.Common.{rules}
use Rattle.aide_line_session.proofs.lines_program.run_ruled.Goals as goal

pub returns-clause-closes : goal.returns-clause-closes
returns-clause-closes c = search rules
