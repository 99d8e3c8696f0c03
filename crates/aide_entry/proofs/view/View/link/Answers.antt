use Rattle.std.proofs.Common.{ap, ◌∙◌, Some}
use Rattle.aide_attr.specs.Attr.{row, row_of}
use Rattle.aide_attr.specs.declared.form.Form.TheVariants.{Link}
use Rattle.aide_fields.specs.Attributes.{link_in}
use Rattle.aide_entry.specs.Entry.{value_in}
use Rattle.aide_entry.proofs.view.View.link.Goals as goal

pub returns-in-None : goal.returns-in-None
unfolding row_of row
returns-in-None c = ap (λ field. link_in (value_in Link field)) c.in-None.ensures

pub returns-in-Some : goal.returns-in-Some
unfolding row_of row
returns-in-Some c = ap Some c.read_link.ensures ∙ ap (λ field. link_in (value_in Link field)) c.in-Some.ensures
