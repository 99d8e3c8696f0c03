use Rattle.std.proofs.Common.{◌∙◌, ap, inl, refl, Some, Err, rules}
use Rattle.aide_line_session.specs.LineEnds.{no_settings}
use Rattle.aide_site.specs.declared.job_config.NoSettings.TheVariants.{Memory}
use Rattle.std.proofs.Math.Path.{subst}
use Rattle.aide_patterns.specs.List.{HasFirstFault}
use Rattle.aide_words.specs.LineJob.{LineJobText, text_of_line_job}
use Rattle.aide_line_session.proofs.LineParts.{ends_for, is_none_and_some, same_job}
use Rattle.aide_line_session.specs.LineSession.{check_job_of}
use Rattle.aide_line_session.specs.SettingsTold.{settings_told}
use Rattle.aide_line_session.proofs.CheckJobs.{only_checks}
use Rattle.aide_site.specs.code.Parts.{part_between}
use Rattle.aide_site.proofs.Closings.{closes_starved, closes_unopened}
use Rattle.aide_site.proofs.PutLemmas.{appends_none}
use Rattle.aide_line_session.proofs.lines_program.run_line_words.Goals as goal

pub returns-in-Ok-clause-alone : goal.returns-in-Ok-clause-alone
returns-in-Ok-clause-alone g c = λ none. absurd (is_none_and_some _ _ none c.in-Ok.ensures.ok)

pub returns-in-Ok-clause-compares : goal.returns-in-Ok-clause-compares
returns-in-Ok-clause-compares g c = λ job is.
    ends_for (text_of_line_job c.in-Ok.job) job _ _ _ (same_job _ _ _ c.in-Ok.ensures.ok is) c.run_line_job.ensures.closes

pub returns-in-Ok-clause-unlooked : goal.returns-in-Ok-clause-unlooked
returns-in-Ok-clause-unlooked g c = λ job is fault has.
    c.run_line_job.ensures.unlooked fault
    (subst (λ (j : LineJobText). HasFirstFault j.without fault) (same_job _ _ _ is c.in-Ok.ensures.ok) has)

pub returns-in-Err-Usage-clause-unlooked : goal.returns-in-Err-Usage-clause-unlooked
returns-in-Err-Usage-clause-unlooked g c = λ job is.
    absurd (is_none_and_some _ _ (c.read_line_words.ensures.usage (c.in-Err-Usage.is ∙ ap Err c.in-Err-Usage.field-0-is)) is)

pub returns-in-Err-Usage-clause-alone : goal.returns-in-Err-Usage-clause-alone
returns-in-Err-Usage-clause-alone g c = λ none. record {
  closes = c.run_check_words.ensures.closes;
  unopened = closes_unopened (Some settings_told) (check_job_of c.args.words.now) _
      (part_between g.S.Sources g.W.Sink g.E.Sink c.args.devices.now c.run_check_words.new.devices) (only_checks c.args.words.now)
      c.run_check_words.ensures.closes;
  still = c.run_check_words.ensures.still;
  trusted_unopened = refl;
  trusted_still = refl;
}

pub returns-in-Err-Usage-clause-compares : goal.returns-in-Err-Usage-clause-compares
returns-in-Err-Usage-clause-compares g c = λ job is.
    absurd (is_none_and_some _ _ (c.read_line_words.ensures.usage (c.in-Err-Usage.is ∙ ap Err c.in-Err-Usage.field-0-is)) is)

pub returns-in-Err-Memory-clause-alone : goal.returns-in-Err-Memory-clause-alone
returns-in-Err-Memory-clause-alone g c = search (rules, appends_none, closes_starved)

pub returns-in-Err-Memory-clause-compares : goal.returns-in-Err-Memory-clause-compares
returns-in-Err-Memory-clause-compares g c = λ job is. inl (record {
  stop = no_settings Memory;
  cause = inl refl;
  stops = record {
    status_is = refl;
    put = c.put_memory_line.ensures;
    output = appends_none (g.W.Sink.delivered c.args.devices.now.out.now);
    unopened = refl;
    trusted_unopened = refl;
    unflushed = refl;
    still = refl;
    trusted_still = refl;
  };
})
