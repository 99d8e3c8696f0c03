use Rattle.std.proofs.Common.{Ok, ap, refl}
use Rattle.aide_words.specs.Job.{text_of_job}
use Rattle.aide_site.specs.JobSettings.{no_settings_line}
use Rattle.aide_site.proofs.Closings.{asks_and_reads, closes_later, closes_without, same_course}
use Rattle.aide_site.proofs.JobSettings.{cause_for, read_for}
use Rattle.aide_site.proofs.PutLemmas.{appends_none, put_as}
use Rattle.aide_site.proofs.config_check.check_job.Goals as goal

pub returns-in-Ok-clause-closes : goal.returns-in-Ok-clause-closes
returns-in-Ok-clause-closes g c = λ wanted is.
    let devices = c.args.devices.now in
    let opens = c.job_settings.ensures.opens in
    let ran = c.check.new.devices in
    closes_later g.T.Telling.says _ _ _ _ wanted _ _ _ _ _ _ _ _ opens.files opens.reliable
    (same_course g.S.Sources g.W.Sink devices.site.now c.job_settings.new.site ran.site.now devices.out.now ran.out.now
    opens.openings) opens.never_falls
    (c.check.ensures.closes wanted _
    (asks_and_reads _ _ wanted (text_of_job c.args.job.now) _ (Ok c.in-Ok.settings) opens.files is c.requires
    (read_for _ _ _ _ c.of.ensures c.in-Ok.ensures.ok)))

pub returns-in-Err-clause-closes : goal.returns-in-Err-clause-closes
returns-in-Err-clause-closes g c = λ wanted is.
    closes_without g.T.Telling.says _ _ wanted _ _ _ _ _ _ _ _ _ _ _ c.job_settings.ensures.opens.openings (appends_none _) refl
    (text_of_job c.args.job.now) c.in-Err.why is
    (cause_for (g.S.Sources.file_at c.args.devices.now.site.now) _ _ _ _ c.in-Err.why c.of.ensures c.in-Err.ensures.err)
    c.put_no_settings.ensures.status
    (put_as _ _ (ap (λ path. no_settings_line path c.in-Err.why) c.as_str.ensures) c.put_no_settings.ensures.put)
