use Rattle.std.proofs.Common.{[], subst}
use Rattle.std.proofs.lemmas.Result.{err_from_is_err_and}
use Rattle.aide_db.specs.declared.side.Side.TheVariants.{Old, New}
use Rattle.aide_report.specs.code.Counts.{Completes}
use Rattle.aide_report.proofs.GivenLemmas.{gave_merged}
use Rattle.aide_report.proofs.PassLemmas.{pass_changed, pass_done, pass_failed}
use Rattle.aide_report.proofs.PassLemmas.{passes_err}
use Rattle.aide_report.specs.code.GivenDigests.{next_given}
use Rattle.aide_report.proofs.pass.count_pass.Goals as goal

pub returns-in_err-old_reel-clause-passes : goal.returns-in_err-old_reel-clause-passes
returns-in_err-old_reel-clause-passes g c =
    let p = err_from_is_err_and c.from_residual.result c.from_residual.ensures.1 in
    rw (p.1, p.2) (passes_err (λ none. absurd none) (c.in_err-old_reel.ensures.passes c.args.limits c.args.desk.now))

pub returns-in-None : goal.returns-in-None
returns-in-None g c = record {
  passes = pass_done (c.in_ok-old_reel.ensures.passes c.args.limits c.args.desk.now) (c.start-merge.ensures.desk _)
      (c.start-merge.ensures.opened _ c.in_ok-old_reel.ensures.gives)
      c.count.ensures.keeps c.close_both.ensures.keeps c.close_both.ensures.openings;
  counts = λ old new told_old told_new.
      let bytes_of = g.S.Sources.bytes_of c.args.sources.now in
      let opened = c.start-merge.ensures.opened bytes_of c.in_ok-old_reel.ensures.gives in
      subst (λ all. Completes c.args.options.now c.in-Ok.counts [] all) (opened.rest old new)
      (c.in-Ok.ensures.counts old new (opened.stands Old old told_old) (opened.stands New new told_new));
  gave =
      let given = next_given (g.S.Sources.bytes_at c.args.sources.now) (g.S.Sources.openings c.args.sources.now) in
      gave_merged (c.in_ok-old_reel.ensures.passes c.args.limits c.args.desk.now).opens c.close_both.ensures.openings
      (c.start-merge.ensures.opened given c.in_ok-old_reel.ensures.gives_at) c.count.ensures.keeps c.in-None.ensures.same;
}

pub returns-in-Some-clause-passes : goal.returns-in-Some-clause-passes
returns-in-Some-clause-passes g c =
    pass_changed (c.in_ok-old_reel.ensures.passes c.args.limits c.args.desk.now) (c.start-merge.ensures.desk _)
    (c.start-merge.ensures.opened _ c.in_ok-old_reel.ensures.gives)
    c.count.ensures.keeps c.close_both.ensures.keeps c.close_both.ensures.openings c.in-Some.ensures.changed c.requires.digests

pub returns-in-Err-clause-passes : goal.returns-in-Err-clause-passes
returns-in-Err-clause-passes g c =
    let closed = c.close_both-in-Err.ensures in
    rw c.later_fault.ensures (pass_failed (c.in_ok-old_reel.ensures.passes c.args.limits c.args.desk.now) (c.start-merge.ensures.desk _)
    (c.start-merge.ensures.opened _ c.in_ok-old_reel.ensures.gives)
    c.count.ensures.keeps closed.keeps closed.openings
    closed.rose closed.unfailed c.in-Err.ensures.fault)

pub count-requires : goal.count-requires
count-requires g c =
    let bytes_of = g.S.Sources.bytes_of c.args.sources.now in
    let opened = c.start-merge.ensures.opened bytes_of c.in_ok-old_reel.ensures.gives in
    record { ready = opened.ready; short = opened.short }
