use Rattle.std.proofs.Common.{arith, sym, ◌∙◌, rules}
use Rattle.aide_entry.proofs.SkippedLemmas.{back_fits, back_one, back_none, one_bit}
use Rattle.aide_entry.proofs.columns.skipped_bits.Goals as goal

pub overflow_mul-bits : goal.overflow_mul-bits
overflow_mul-bits c =
    omega (
      arith,
      back_fits c.args.columns.now c.columns.rest.now c.in-Some.before.now c.in-Some.column.now c.columns.bits c.requires.few
          c.in-Some.ensures.cases.0 c.columns.invariant,
    )

pub overflow_add-bits : goal.overflow_add-bits
overflow_add-bits c =
    omega (
      arith,
      one_bit c.in-Some.column.now (sym c.is_column.ensures ∙ c.if-is_column.true),
      back_fits c.args.columns.now c.columns.rest.now c.in-Some.before.now c.in-Some.column.now c.columns.bits c.requires.few
          c.in-Some.ensures.cases.0 c.columns.invariant,
    )

pub columns-preserved-then-is_column : goal.columns-preserved-then-is_column
columns-preserved-then-is_column c = search (rules, back_one)

pub columns-preserved : goal.columns-preserved
columns-preserved c = search (rules, back_none)
