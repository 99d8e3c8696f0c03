use Rattle.std.proofs.Common.{rules}
use Rattle.aide_report_session.proofs.program.session_on.Goals as goal

pub returns-clause-session : goal.returns-clause-session
returns-clause-session c = search rules
