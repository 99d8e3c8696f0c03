use Rattle.std.proofs.Common.{◌∙◌, ap, subst, rules}
use Rattle.std.proofs.lemmas.Result.{err_from_is_err_and}
use Rattle.aide_db.specs.declared.side.Side.TheVariants.{Old, New}
use Rattle.aide_text.specs.PenSheet.{on_sheet}
use Rattle.std.specs.List.{flat_map}
use Rattle.aide_text.specs.Failures.{Rose}
use Rattle.aide_text.specs.Sheet.{Wrote, WritesPart}
use Rattle.aide_text.proofs.Sheets.{part_whole, part_nothing, some_nothing}
use Rattle.aide_report.proofs.GivenLemmas.{gave_merged}
use Rattle.aide_report.proofs.PassLemmas.{pass_changed, pass_done, pass_stopped}
use Rattle.aide_report.proofs.PassLemmas.{passes_err, stop_written, unwritten}
use Rattle.aide_report.specs.code.GivenDigests.{next_given}
use Rattle.aide_report.proofs.pass.entries_pass.Goals as goal

pub returns-in_err-old_reel : goal.returns-in_err-old_reel
returns-in_err-old_reel g c = record {
  passes = let p = err_from_is_err_and c.from_residual.result c.from_residual.ensures.1 in rw (p.1, p.2)
      (passes_err (λ none. absurd none) (c.in_err-old_reel.ensures.passes c.args.plan.now.limits c.args.desk.now));
  writes = λ old new told_old told_new. search (rules, err_from_is_err_and, part_nothing);
  pen = let p = err_from_is_err_and c.from_residual.result c.from_residual.ensures.1 in rw (p.1, p.2) (record {
    some = some_nothing (on_sheet g.W.Sink c.args.out.now c.args.pen.now);
    writes_on = tt;
    written = unwritten (Rose (g.S.Sources.failures c.args.sources.now) (g.S.Sources.failures c.open_both.new.sources)) c.args.pen.now
        c.in_err-old_reel.field-0.0 c.requires.writes_on
        (c.in_err-old_reel.ensures.passes c.args.plan.now.limits c.args.desk.now).fault.caused;
  });
  gave = search rules;
  old_opened = c.open_both.ensures.old_opened;
}

pub returns-in-None : goal.returns-in-None
returns-in-None g c = record {
  passes = pass_done (c.in_ok-old_reel.ensures.passes c.args.plan.now.limits c.args.desk.now) (c.start-merge.ensures.desk _)
      (c.start-merge.ensures.opened _ c.in_ok-old_reel.ensures.gives)
      c.put_entries.ensures.keeps c.close_both.ensures.keeps c.close_both.ensures.openings;
  writes = λ old new told_old told_new.
      let bytes_of = g.S.Sources.bytes_of c.args.sources.now in
      let opened = c.start-merge.ensures.opened bytes_of c.in_ok-old_reel.ensures.gives in
      subst (λ all. Wrote (flat_map (g.T.ChangeWriter.text_of c.args.writer.now) all) (on_sheet g.W.Sink c.args.out.now c.args.pen.now)
      (on_sheet g.W.Sink c.put_entries.new.out c.put_entries.new.pen)) (opened.rest old new)
      (c.in-Ok.ensures.writes old new (opened.stands Old old told_old) (opened.stands New new told_new));
  pen = record { some = c.put_entries.ensures.some; writes_on = c.in-Ok.ensures.writes_on; written = tt };
  gave =
      let given = next_given (g.S.Sources.bytes_at c.args.sources.now) (g.S.Sources.openings c.args.sources.now) in
      gave_merged (c.in_ok-old_reel.ensures.passes c.args.plan.now.limits c.args.desk.now).opens c.close_both.ensures.openings
      (c.start-merge.ensures.opened given c.in_ok-old_reel.ensures.gives_at) c.put_entries.ensures.keeps c.in-None.ensures.same;
  old_opened = ap (λ openings. openings Old) c.close_both.ensures.openings ∙ c.open_both.ensures.old_opened;
}

pub returns-in-Some : goal.returns-in-Some
returns-in-Some g c = record {
  passes = pass_changed (c.in_ok-old_reel.ensures.passes c.args.plan.now.limits c.args.desk.now) (c.start-merge.ensures.desk _)
      (c.start-merge.ensures.opened _ c.in_ok-old_reel.ensures.gives)
      c.put_entries.ensures.keeps c.close_both.ensures.keeps c.close_both.ensures.openings c.in-Some.ensures.changed c.requires.digests;
  writes = λ old new told_old told_new.
      let bytes_of = g.S.Sources.bytes_of c.args.sources.now in
      let opened = c.start-merge.ensures.opened bytes_of c.in_ok-old_reel.ensures.gives in
      part_whole (subst (λ all. Wrote (flat_map (g.T.ChangeWriter.text_of c.args.writer.now) all)
      (on_sheet g.W.Sink c.args.out.now c.args.pen.now) (on_sheet g.W.Sink c.put_entries.new.out c.put_entries.new.pen))
      (opened.rest old new)
      (c.in-Ok.ensures.writes old new (opened.stands Old old told_old) (opened.stands New new told_new)));
  pen = record { some = c.put_entries.ensures.some; writes_on = tt; written = c.in-Ok.ensures.writes_on };
  gave = search rules;
  old_opened = ap (λ openings. openings Old) c.close_both.ensures.openings ∙ c.open_both.ensures.old_opened;
}

pub returns-in-Err : goal.returns-in-Err
returns-in-Err g c = record {
  passes =
      let closed = c.close_both-in-Err.ensures in
      rw c.pass_fault.ensures (pass_stopped c.in-Err.fault c.put_entries.new.pen.sent c.put_entries.new.pen
      (c.in_ok-old_reel.ensures.passes c.args.plan.now.limits c.args.desk.now) (c.start-merge.ensures.desk _)
      (c.start-merge.ensures.opened _ c.in_ok-old_reel.ensures.gives)
      c.put_entries.ensures.keeps
      closed.keeps closed.openings closed.rose closed.unfailed c.in-Err.ensures.fault);
  writes = λ old new told_old told_new.
      let bytes_of = g.S.Sources.bytes_of c.args.sources.now in
      let opened = c.start-merge.ensures.opened bytes_of c.in_ok-old_reel.ensures.gives in
      subst (λ all. WritesPart (flat_map (g.T.ChangeWriter.text_of c.args.writer.now) all) (on_sheet g.W.Sink c.args.out.now c.args.pen.now)
      (on_sheet g.W.Sink c.put_entries.new.out c.put_entries.new.pen)) (opened.rest old new)
      (c.in-Err.ensures.writes old new (opened.stands Old old told_old) (opened.stands New new told_new));
  pen = search (rules, stop_written);
  gave = search rules;
  old_opened = ap (λ openings. openings Old) c.close_both-in-Err.ensures.openings ∙ c.open_both.ensures.old_opened;
}

pub put_entries-requires-clause-ready : goal.put_entries-requires-clause-ready
put_entries-requires-clause-ready g c =
    let opened = c.start-merge.ensures.opened (g.S.Sources.bytes_of c.args.sources.now) c.in_ok-old_reel.ensures.gives in
    opened.ready
