use Rattle.std.proofs.Common.{rules}
use Rattle.aide_line_session.proofs.lines_program.lines_session_on.Goals as goal

pub returns : goal.returns
returns c = search rules
