use Rattle.std.proofs.Common.{rules}
use Rattle.aide_site.proofs.Pages.{made_empty}
use Rattle.aide_line_session.proofs.machine.run_lines_paged.Goals as goal

pub returns-clause-session : goal.returns-clause-session
returns-clause-session g c = search (rules, made_empty)
