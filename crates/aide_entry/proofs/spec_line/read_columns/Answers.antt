use Rattle.aide_entry.specs.Columns.{columns_in}
use Rattle.aide_entry.proofs.SpecLineLemmas.{full_columns}
use Rattle.aide_entry.proofs.spec_line.read_columns.Goals as goal

pub returns-then-not-push-clause-none : goal.returns-then-not-push-clause-none
returns-then-not-push-clause-none c =
    full_columns (columns_in c.fields.columns) c.fields.rest.now c.in-Some-next_field.more.now c.in-Some-next_field.field.now _
    c.fields.invariant (c.push.ensures.full c.if-not-push.true) c.in-Some-next_field.ensures.some
