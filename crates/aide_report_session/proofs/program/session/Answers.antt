use Rattle.aide_report_session.proofs.program.session.Goals as goal

pub returns : goal.returns
returns g c = record { session = c.session_on.ensures.session }
