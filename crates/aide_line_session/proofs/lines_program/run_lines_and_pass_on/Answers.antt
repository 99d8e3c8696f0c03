use Rattle.std.proofs.Common.{◌∙◌, Some, arith, sym}
use Rattle.aide_line_session.specs.LineAnswer.{trusted_of}
use Rattle.aide_line_session.specs.LineSession.{check_job_of}
use Rattle.aide_line_session.specs.SettingsTold.{settings_told}
use Rattle.aide_line_session.specs.code.LineParts.{line_view_between}
use Rattle.aide_line_session.proofs.LineEndings.{line_bound, lines_end, lines_passed, passed_view, peaks_of_lines, put_rises}
use Rattle.aide_line_session.proofs.LineEndings.{trusted_line_bound, lines_unfailed}
use Rattle.aide_line_session.proofs.LineExistence.{lines_answered}
use Rattle.aide_site.specs.code.Parts.{part_between}
use Rattle.aide_site.proofs.ClosingEnds.{session_of}
use Rattle.aide_site.proofs.Endings.{no_failure_never_rose, true_is_not_false}
use Rattle.aide_line_session.proofs.lines_program.run_lines_and_pass_on.Goals as goal

pub returns-clause-session : goal.returns-clause-session
returns-clause-session g c =
    let kept = c.pass_on.ensures.kept in
    let after = c.pass_on.ensures.never_falls in
    let devices = c.args.devices.now in
    let ran = c.run_line_words-status in
    let view = line_view_between g.S.Sources g.W.Sink g.E.Sink devices ran.new.devices c.args.trusted.now ran.new.trusted in
    let bytes = g.E.Sink.delivered c.pass_on.new.err in
    let count = g.E.Sink.failures c.pass_on.new.err in
    let last = passed_view view bytes count in
    let failed = g.S.Sources.failures devices.site.now in
    record {
      alone = λ none.
          session_of (Some settings_told) (check_job_of c.args.words.now) ran.result
          (part_between g.S.Sources g.W.Sink g.E.Sink devices ran.new.devices) bytes count (g.E.Sink.is_flushed c.pass_on.new.err) kept
          after c.pass_on.ensures.flushed ran.ensures.lookups (ran.ensures.alone none).closes;
      unopened = λ none. (ran.ensures.alone none).unopened;
      still = λ none. (ran.ensures.alone none).still;
      trusted_unopened = λ none. (ran.ensures.alone none).trusted_unopened;
      trusted_still = λ none. (ran.ensures.alone none).trusted_still;
      compares = λ job is.
          let ends = lines_passed view bytes count kept after job ran.result failed (ran.ensures.compares job is) in
          let before = put_rises job ran.result failed view (ran.ensures.compares job is) in
          let peaks = peaks_of_lines job ran.result failed last ends in
          record {
            ends = λ named a answer. lines_end job ran.result failed last named a answer ends;
            exact = λ named a answer unfailed_site unfailed_trusted unfailed_out.
                lines_unfailed a named (trusted_of job) _ _ _ _ _ (λ cause. no_failure_never_rose _ _ unfailed_site cause.1)
                (λ cause. no_failure_never_rose _ _ unfailed_trusted cause.1) (no_failure_never_rose _ _ unfailed_out)
                (lines_end job ran.result failed last named a answer ends);
            reliable = λ named a answer reliable trusted_reliable unfailed_out.
                lines_unfailed a named (trusted_of job) _ _ _ _ _ (λ cause. true_is_not_false (sym reliable ∙ cause.0))
                (λ cause. true_is_not_false (sym trusted_reliable ∙ cause.0)) (no_failure_never_rose _ _ unfailed_out)
                (lines_end job ran.result failed last named a answer ends);
            passed_on = λ unfailed. c.pass_on.ensures.flushed (omega (arith, before, after, unfailed.0), unfailed.1);
            answered = lines_answered _ _ job;
            closes = ends;
            lookups = ran.ensures.lookups;
            trusted_lookups = ran.ensures.trusted_lookups;
            unlooked = ran.ensures.unlooked job is;
            peak = peaks.0;
            below = peaks.1;
            trusted_peak = peaks.2;
            trusted_below = peaks.3;
            bound = λ named a answer. line_bound job ran.result failed last named a answer ends;
            trusted_bound = λ named a answer. trusted_line_bound job ran.result failed last ends;
          };
    }
