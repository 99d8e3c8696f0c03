use Rattle.std.proofs.Common.{None, Ok, ap, refl, rules}
use Rattle.aide_words.specs.Job.{text_of_job}
use Rattle.aide_site.specs.JobSettings.{no_settings_line}
use Rattle.aide_site.proofs.AnswerSteps.{compares_is}
use Rattle.aide_site.proofs.Closings.{asks_and_reads, closes_later, closes_without, same_course}
use Rattle.aide_site.proofs.HeldLemmas.{held_over, same_held}
use Rattle.aide_site.proofs.JobSettings.{both_named, cause_for, read_for}
use Rattle.aide_site.proofs.PutLemmas.{appends_none, put_as}
use Rattle.aide_report_session.proofs.program.compare_job.Goals as goal

pub returns-in-Ok-clause-closes : goal.returns-in-Ok-clause-closes
returns-in-Ok-clause-closes g c = λ wanted is.
    let devices = c.args.devices.now in
    let opens = c.job_settings.ensures.opens in
    let ran = c.compare.new.devices in
    closes_later None _ _ _ _ wanted _ _ _ _ _ _ _ _ opens.files opens.reliable
    (same_course g.S.Sources g.W.Sink devices.site.now c.job_settings.new.site ran.site.now devices.out.now ran.out.now
    opens.openings) opens.never_falls
    (c.compare.ensures.closes wanted _
    (asks_and_reads _ _ wanted (text_of_job c.args.job.now) _ (Ok c.in-Ok.settings) opens.files is c.requires
    (read_for _ _ _ _ c.of.ensures c.in-Ok.ensures.ok)))

pub returns-in-Err-clause-closes : goal.returns-in-Err-clause-closes
returns-in-Err-clause-closes g c = λ wanted is.
    closes_without None _ _ wanted _ _ _ _ _ _ _ _ _ _ _ c.job_settings.ensures.opens.openings (appends_none _) refl
    (text_of_job c.args.job.now) c.in-Err.why is
    (cause_for (g.S.Sources.file_at c.args.devices.now.site.now) _ _ _ _ c.in-Err.why c.of.ensures c.in-Err.ensures.err)
    c.put_no_settings.ensures.status
    (put_as _ _ (ap (λ path. no_settings_line path c.in-Err.why) c.as_str.ensures) c.put_no_settings.ensures.put)

pub returns-in-Ok-clause-bound : goal.returns-in-Ok-clause-bound
returns-in-Ok-clause-bound g c = λ named a is.
    let opens = c.job_settings.ensures.opens in
    held_over _ _ named _ _ opens.files
    (c.compare.ensures.bound named a
    (compares_is None _ _ (text_of_job c.args.job.now) c.in-Ok.settings named a opens.files c.requires
    (read_for _ _ _ _ c.of.ensures c.in-Ok.ensures.ok) is))

pub returns-in-Err-clause-bound : goal.returns-in-Err-clause-bound
returns-in-Err-clause-bound g c = search (rules, same_held)

pub compare-requires : goal.compare-requires
compare-requires g c = search (rules, both_named, read_for)
