use Rattle.std.proofs.Common.{arith}
use Rattle.aide_site.specs.Answer.{asked_by, limits}
use Rattle.aide_line_session.specs.LineAnswer.{trusted_of}
use Rattle.aide_site.specs.Trusted.{trusted_at}
use Rattle.aide_line_session.proofs.LineLaws.{line_answer_by_what_is_asked}
use Rattle.aide_headline.proofs.LineLaws.{asked_has_an_answer, right_is_the_answer}
use Rattle.aide_headline.proofs.lines_program.run_lines_program.Goals as goal

pub returns-clause-answer : goal.returns-clause-answer
returns-clause-answer g c job list named settings old new trusted_old trusted_new asks site trusted out right is =
    (c.lines_session_on.ensures.session.compares job asks.job_is).exact named _
    (line_answer_by_what_is_asked (g.S.Sources.file_at c.args.compared.now.site) (trusted_at (g.S.Sources.file_at c.args.trusted.now.site))
    c.args.words.now job list named settings old new trusted_old trusted_new right asks
    (right_is_the_answer limits list (asked_by settings.options named) (asked_by settings.options (trusted_of job)) old new trusted_old
    trusted_new right (omega arith) is))
    site trusted out

pub returns-clause-bound : goal.returns-clause-bound
returns-clause-bound g c job list named settings old new trusted_old trusted_new asks =
    let answer = asked_has_an_answer asks in
    let session = c.lines_session_on.ensures.session.compares job asks.job_is in (
      session.bound named answer.0 answer.1 old new asks.old_there asks.new_there,
      session.trusted_bound named answer.0 answer.1 trusted_old trusted_new asks.trusted_old_there asks.trusted_new_there,
    )
