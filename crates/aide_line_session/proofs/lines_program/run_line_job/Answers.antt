use Rattle.std.proofs.Common.{◌∙◌, ℕ, List, inl, refl, sym}
use Rattle.std.proofs.Math.Path.{subst}
use Rattle.aide_patterns.specs.List.{HasFirstFault}
use Rattle.aide_line_session.specs.LineEnds.{list_refused, no_settings}
use Rattle.aide_site.specs.declared.job_config.NoSettings.TheVariants.{Memory}
use Rattle.aide_line_session.proofs.LineEndings.{no_rules_and_fault}
use Rattle.aide_site.proofs.PutLemmas.{appends_none}
use Rattle.aide_line_session.proofs.lines_program.run_line_job.Goals as goal

pub returns-in-Ok-clause-unlooked : goal.returns-in-Ok-clause-unlooked
returns-in-Ok-clause-unlooked g c = λ fault has.
    absurd (no_rules_and_fault c.as_bytes-text.result.now _ fault c.in-Ok.ensures.ok
    (subst (λ (t : List ℕ). HasFirstFault t fault) (sym (c.as_bytes-text.ensures.value ∙ c.as_str.ensures)) has))

pub returns-in_default-clause-closes : goal.returns-in_default-clause-closes
returns-in_default-clause-closes g c = inl (record {
  stop = list_refused c.in-Err.fault;
  cause = subst (λ (t : List ℕ). HasFirstFault t c.in-Err.fault) (c.as_bytes-text.ensures.value ∙ c.as_str.ensures)
      (c.in-Err.ensures.err c.in_default.not-Memory);
  stops = record {
    status_is = refl;
    put = c.put_list_line.ensures;
    output = appends_none (g.W.Sink.delivered c.args.devices.now.out.now);
    unopened = refl;
    trusted_unopened = refl;
    unflushed = refl;
    still = refl;
    trusted_still = refl;
  };
})

pub returns-in-Memory-clause-closes : goal.returns-in-Memory-clause-closes
returns-in-Memory-clause-closes g c = inl (record {
  stop = no_settings Memory;
  cause = inl refl;
  stops = record {
    status_is = refl;
    put = c.put_memory_line.ensures;
    output = appends_none (g.W.Sink.delivered c.args.devices.now.out.now);
    unopened = refl;
    trusted_unopened = refl;
    unflushed = refl;
    still = refl;
    trusted_still = refl;
  };
})
