use Rattle.std.proofs.Common.{refl, None}
use Rattle.std.specs.Option.{option_copied}
use Rattle.aide_entry.specs.Columns.{columns_in}
use Rattle.aide_entry.specs.code.FirstColumns.{bits_in}
use Rattle.aide_entry.proofs.FieldValues.{field_on}
use Rattle.aide_entry.proofs.view.View.field_of.Goals as goal

pub returns-in-None : goal.returns-in-None
returns-in-None c =
    let columns = columns_in c.args.self.now.columns.now in
    let line = c.args.self.now.line.now in
    field_on columns line c.args.attr c.holder.result None (bits_in columns line) (option_copied c.field_under.result)
    c.holder.ensures c.in-None.ensures.same refl refl c.field_under.ensures
