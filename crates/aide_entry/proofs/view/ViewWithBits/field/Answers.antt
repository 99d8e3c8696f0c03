use Rattle.std.proofs.Common.{refl, None, rules}
use Rattle.aide_entry.specs.Columns.{columns_in}
use Rattle.aide_entry.proofs.FieldValues.{field_on, field_off, field_none}
use Rattle.aide_entry.proofs.view.ViewWithBits.field.Goals as goal

pub returns-in-None : goal.returns-in-None
returns-in-None c =
    field_none (columns_in c.args.self.now.view.now.columns.now) c.args.self.now.view.now.line.now c.args.attr c.holder.result None
    c.holder.ensures refl c.in-None.ensures

pub returns-then-is_on : goal.returns-then-is_on
returns-then-is_on c = search (rules, field_on)

pub returns-else-is_on : goal.returns-else-is_on
returns-else-is_on c = search (rules, field_off)
