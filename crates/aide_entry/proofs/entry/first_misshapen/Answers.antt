use Rattle.std.proofs.Common.{arith, sym, ◌∙◌, ◌+◌, rules}
use Rattle.aide_entry.proofs.ShapeLemmas.{shaped_more, all_shaped, nought_is_shaped}
use Rattle.aide_entry.proofs.entry.first_misshapen.Goals.{then-not-is_nought+in-Some, else-not-is_nought}
use Rattle.aide_entry.proofs.entry.first_misshapen.Goals as goal

pub columns-preserved : goal.columns-preserved
columns-preserved c = record {
  same = shaped_more (c.columns.index + 1) c.args.line.now c.args.shapes.now c.args.spans.now c.columns.index _ _ c.of-field.result.now
      (omega (arith, c.min-count.ensures, c.columns-test.true)) (omega (arith, c.min-count.ensures, c.columns-test.true)) c.of-field.ensures
      (elim c.if-not-is_nought.branch [
        | then-not-is_nought+in-Some w ↦ w.in-Some.ensures.some.0
        | else-not-is_nought w ↦ nought_is_shaped _ c.of-field.result.now (sym c.is_nought.ensures ∙ w.if-not-is_nought.false)
      ])
      ∙ c.columns.invariant.same;
  time = elim c.if-not-is_nought.branch [
    | then-not-is_nought+in-Some w ↦ rw w.time-is w.in-Some.ensures.some.1
    | else-not-is_nought w ↦ rw w.time-is c.columns.invariant.time
  ];
  position = omega (arith, c.columns-test.true);
}

pub returns-clause-same : goal.returns-clause-same
returns-clause-same c = search (rules, all_shaped)
