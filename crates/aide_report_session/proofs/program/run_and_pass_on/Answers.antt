use Rattle.std.proofs.Common.{None}
use Rattle.aide_words.specs.Job.{job_of}
use Rattle.aide_site.specs.code.Parts.{part_between}
use Rattle.aide_site.proofs.ClosingEnds.{session_of}
use Rattle.aide_report_session.proofs.program.run_and_pass_on.Goals as goal

pub returns-clause-session : goal.returns-clause-session
returns-clause-session g c =
    let ran = c.run_words-status in
    let passed = c.pass_on in
    session_of None (job_of c.args.words.now) ran.result
    (part_between g.S.Sources g.W.Sink g.E.Sink c.args.devices.now ran.new.devices) (g.E.Sink.delivered passed.new.err)
    (g.E.Sink.failures passed.new.err) (g.E.Sink.is_flushed passed.new.err) passed.ensures.kept passed.ensures.never_falls
    passed.ensures.flushed ran.ensures.lookups ran.ensures.closes
