use Rattle.std.proofs.Common.{◌∙◌, arith, refl, subst, rules}
use Rattle.aide_db.specs.declared.side.Side.TheVariants.{Old, New}
use Rattle.aide_merge.specs.code.ChangeView.{change_of}
use Rattle.aide_merge.specs.code.Merging.{remaining}
use Rattle.aide_text.specs.PenSheet.{on_sheet}
use Rattle.std.specs.List.{flat_map}
use Rattle.aide_report.proofs.WriterLemmas.{alike_written, all_written, more_written}
use Rattle.aide_merge.proofs.CallLemmas.{merge_fault, merge_none, merge_then}
use Rattle.aide_text.proofs.Sheets.{writing_start, writing_more, writing_done, writing_so_far, some_nothing, some_more}
use Rattle.aide_text.proofs.Sheets.{some_of}
use Rattle.aide_text.specs.Sheet.{Writing}
use Rattle.aide_report.proofs.change_writer.put_entries.Goals as goal

pub pass-init : goal.pass-init
pass-init g c = search (rules, merge_none, writing_start, some_nothing)

pub read_due-requires : goal.read_due-requires
read_due-requires g c = c.pass.invariant.ready

pub returns-in-Err : goal.returns-in-Err
returns-in-Err g c = record {
  keeps = merge_then c.pass.invariant.keeps c.read_due.ensures.keeps;
  writes = λ old new s t. writing_so_far (c.pass.invariant.writes old new s t);
  some = c.pass.invariant.some;
  writes_on = search rules;
  ended = search rules;
  fault = (c.pass.invariant.writes_on, merge_fault c.pass.invariant.keeps c.in-Err.ensures.fault);
}

pub returns-in-End : goal.returns-in-End
returns-in-End g c = record {
  keeps = merge_then c.pass.invariant.keeps (merge_then c.read_due.ensures.keeps c.next.ensures.keeps);
  writes = λ old new s t.
      let stands = c.pass.invariant.keeps.stands in
      writing_done (all_written (g.T.ChangeWriter.text_of c.args.writer.now) (remaining c.pass.merge c.pass.desk old new)
      (c.in_default.ensures.read.same old new (stands Old old s) (stands New new t) ∙ c.in-End.ensures.step.end old new refl))
      (c.pass.invariant.writes old new s t);
  some = c.pass.invariant.some;
  writes_on = c.pass.invariant.writes_on;
  ended = c.in-End.ensures.step.ended refl;
  fault = search rules;
}

pub returns-then-pen : goal.returns-then-pen
returns-then-pen g c =
    let read = c.in_default.ensures.read in
    let step = c.in-Differs.ensures.step in
    let stands = c.pass.invariant.keeps.stands in
    record {
      keeps = merge_then c.pass.invariant.keeps (merge_then c.read_due.ensures.keeps c.next.ensures.keeps);
      writes = λ old new s t. writing_so_far (writing_more
          (more_written (g.T.ChangeWriter.text_of c.args.writer.now) (change_of c.in-Differs.change)
          (remaining c.pass.merge c.pass.desk old new)
          step.changes (remaining c.next.new.self c.read_due.new.desk old new)
          (read.same old new (stands Old old s) (stands New new t) ∙ step.gives old new) step.shows)
          (c.pass.invariant.writes old new s t) c.put.ensures);
      some = some_more c.pass.invariant.some (some_of c.put.ensures);
      writes_on = tt;
      ended = tt;
      fault = c.if-pen.true;
    }

pub pass-preserved-else-pen : goal.pass-preserved-else-pen
pass-preserved-else-pen g c =
    let read = c.in_default.ensures.read in
    let step = c.in-Differs.ensures.step in
    let stands = c.pass.invariant.keeps.stands in
    record {
      ready = step.ready;
      writes_on = c.if-pen.false;
      keeps = merge_then c.pass.invariant.keeps (merge_then c.read_due.ensures.keeps c.next.ensures.keeps);
      writes = λ old new s t. writing_more
          (more_written (g.T.ChangeWriter.text_of c.args.writer.now) (change_of c.in-Differs.change)
          (remaining c.pass.merge c.pass.desk old new)
          step.changes (remaining c.next.new.self c.read_due.new.desk old new)
          (read.same old new (stands Old old s) (stands New new t) ∙ step.gives old new) step.shows)
          (c.pass.invariant.writes old new s t) c.put.ensures;
      some = some_more c.pass.invariant.some (some_of c.put.ensures);
    }

pub pass-preserved : goal.pass-preserved
pass-preserved g c =
    let read = c.in_default.ensures.read in
    let step = c.in-Alike.ensures.step in
    let stands = c.pass.invariant.keeps.stands in
    record {
      ready = step.ready;
      writes_on = c.pass.invariant.writes_on;
      keeps = merge_then c.pass.invariant.keeps (merge_then c.read_due.ensures.keeps c.next.ensures.keeps);
      writes = λ old new s t. subst (λ rest. Writing
          (flat_map (g.T.ChangeWriter.text_of c.args.writer.now) (remaining c.args.merge.now c.args.desk.now old new)) rest
          (on_sheet g.W.Sink c.args.out.now c.args.pen.now) (on_sheet g.W.Sink c.pass.out c.pass.pen))
          (alike_written (g.T.ChangeWriter.text_of c.args.writer.now) step.shows.entry (remaining c.pass.merge c.pass.desk old new)
          step.changes (remaining c.next.new.self c.read_due.new.desk old new)
          (c.skips_alike.ensures step.shows.entry)
          (read.same old new (stands Old old s) (stands New new t) ∙ step.gives old new) step.shows.only)
          (c.pass.invariant.writes old new s t);
      some = c.pass.invariant.some;
    }

pub pass-smaller-else-pen : goal.pass-smaller-else-pen
pass-smaller-else-pen g c = omega (arith, c.in-Differs.ensures.step.falls (λ e. cc), c.in_default.ensures.read.falls)

pub pass-smaller : goal.pass-smaller
pass-smaller g c = omega (arith, c.in-Alike.ensures.step.falls (λ e. cc), c.in_default.ensures.read.falls)
