use Rattle.std.proofs.Common.{◌≡◌, Ok, ap, arith, inl, inr, refl, rules, sym}
use Rattle.std.proofs.Math.Path.{subst}
use Rattle.aide_merge.specs.Asked.{asked}
use Rattle.aide_site.specs.Answer.{Named}
use Rattle.aide_site.specs.Files.{Files}
use Rattle.aide_site.specs.JobSettings.{HasRead, comparison_of, no_settings_line}
use Rattle.aide_words.specs.LineJob.{text_of_line_job}
use Rattle.aide_line_run.specs.ListView.{list_read}
use Rattle.aide_line_session.specs.LineAnswer.{trusted_of}
use Rattle.aide_line_session.specs.LineEnds.{no_settings}
use Rattle.aide_site.specs.declared.job_config.NoSettings.TheVariants.{Memory}
use Rattle.aide_site.specs.code.Parts.{named_by}
use Rattle.aide_site.proofs.JobSettings.{both_named, cause_for, read_for}
use Rattle.aide_site.proofs.PutLemmas.{appends_none, put_as}
use Rattle.aide_line_session.proofs.LineParts.{closes_as, ends_seen, seen_read}
use Rattle.aide_line_session.proofs.lines_program.compare_listed.Goals as goal

pub returns-in-Some-clause-closes : goal.returns-in-Some-clause-closes
returns-in-Some-clause-closes g c = λ listed.
    let devices = c.args.devices.now in
    let job = text_of_line_job c.args.job.now in
    let opens = c.job_settings.ensures.opens in
    let settings = c.in-Ok.settings in
    let task = c.in-Some.task in
    let ran = c.compare_lines.new in
    let trusted : Named = record { config = job.config; old_path = c.as_str.result.now; new_path = c.as_str-in-Ok.result.now } in
    let trusted_is : trusted ≡ trusted_of job =
    λ i. record { config = job.config; old_path = c.as_str.ensures i; new_path = c.as_str-in-Ok.ensures i } in
    ends_seen job _ _ _ _ _ opens.never_falls
    (seen_read g.S.Sources g.W.Sink g.E.Sink ran.devices.site.now ran.trusted.site devices.out.now ran.devices.out.now devices.err.now
    ran.devices.err.now devices.site.now c.job_settings.new.site c.args.trusted.now.site _ _ _ _ opens)
    (elim (c.compare_lines.ensures.closes job.config refl) [
      | inl stops ↦ inl (record { stop = no_settings Memory; cause = inl refl; stops = stops })
      | inr closes ↦ inr (record {
        list = list_read c.args.list;
        listed = listed;
        settings = settings;
        read = subst (λ (f : Files). HasRead f (comparison_of job) (Ok settings)) (sym opens.files)
            (read_for _ _ _ _ c.of_lines.ensures c.in-Ok.ensures.ok);
        named = named_by job.config (asked task);
        config_is = refl;
        old_is = c.in-Some.ensures.some.0;
        new_is = c.in-Some.ensures.some.1;
        count = g.S.Sources.failures c.job_settings.new.site;
        later = omega arith;
        closes = closes_as (list_read c.args.list) (named_by job.config (asked task)) trusted (trusted_of job) task.options
            settings.options _ _ _ trusted_is c.in-Some.ensures.some.2 closes;
      })
    ])

pub returns-in-Err-clause-closes : goal.returns-in-Err-clause-closes
returns-in-Err-clause-closes g c = λ listed.
    inl (record {
      stop = no_settings c.in-Err.why;
      cause = inr (
        (_, listed.rules),
        cause_for (g.S.Sources.file_at c.args.devices.now.site.now) _ _ _ _ c.in-Err.why c.of_lines.ensures
            c.in-Err.ensures.err,
      );
      stops = record {
        status_is = c.put_no_settings.ensures.status;
        put = put_as _ _ (ap (λ path. no_settings_line path c.in-Err.why) c.as_str-in-Err.ensures) c.put_no_settings.ensures.put;
        output = appends_none (g.W.Sink.delivered c.args.devices.now.out.now);
        unopened = c.job_settings.ensures.opens.openings;
        trusted_unopened = refl;
        unflushed = refl;
        still = refl;
        trusted_still = refl;
      };
    })

pub unreachable-requires : goal.unreachable-requires
unreachable-requires g c = search (rules, both_named, read_for)
