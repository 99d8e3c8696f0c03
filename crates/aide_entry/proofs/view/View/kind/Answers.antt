use Rattle.std.proofs.Common.{ap, rules}
use Rattle.aide_attr.specs.Attr.{row, row_of}
use Rattle.aide_attr.specs.declared.form.Form.TheVariants.{Kind}
use Rattle.aide_fields.specs.Attributes.{type_in}
use Rattle.aide_entry.specs.Entry.{value_in}
use Rattle.aide_entry.proofs.FieldValues.{types_mapped}
use Rattle.aide_entry.proofs.view.View.kind.Goals as goal

pub returns-in-None : goal.returns-in-None
unfolding row_of row
returns-in-None c = ap (λ field. type_in (value_in Kind field)) c.in-None.ensures

pub returns-in-Some : goal.returns-in-Some
unfolding row_of row
returns-in-Some c = search (rules, types_mapped)
