use Rattle.std.proofs.Common.{None, arith}
use Rattle.aide_report.proofs.RunLaws.{two_texts_have_an_answer}
use Rattle.aide_site.specs.Answer.{answer_of_run, asked_by, limits}
use Rattle.aide_report_session.proofs.Laws.{a_good_status_means_one_digest, answer_by_what_is_asked}
use Rattle.aide_headline.proofs.program.run_program.Goals as goal

pub returns-clause-answer : goal.returns-clause-answer
returns-clause-answer g c named settings old new asks site out right runs =
    c.session_on.ensures.session.exact named (answer_of_run right)
    (answer_by_what_is_asked None (g.S.Sources.file_at c.args.site.now) c.args.words.now named settings old new right asks runs)
    site out

pub returns-clause-bound : goal.returns-clause-bound
returns-clause-bound g c named settings old new asks =
    let right = two_texts_have_an_answer limits (asked_by settings.options named) old new (omega arith) in
    c.session_on.ensures.desk.bound named (answer_of_run right.0)
    (answer_by_what_is_asked None (g.S.Sources.file_at c.args.site.now) c.args.words.now named settings old new right.0 asks right.1)
    old new asks.old_there asks.new_there

pub returns-clause-agreed : goal.returns-clause-agreed
returns-clause-agreed g c low =
    a_good_status_means_one_digest None _ c.session_on.result _ c.session_on.ensures.session low
