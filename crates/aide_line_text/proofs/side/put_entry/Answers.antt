use Rattle.std.proofs.Common.{◌∙◌, ap, is_some}
use Rattle.std.specs.Prelude.{◌&&◌}
use Rattle.aide_attr.specs.Attr.{all_attrs}
use Rattle.aide_attr.specs.Set.{has}
use Rattle.aide_entry.specs.View.{entry_in}
use Rattle.aide_json.proofs.ItemLemmas.{items_as}
use Rattle.aide_json.specs.Object.{joined, object}
use Rattle.aide_line_text.proofs.LineLemmas.{texts_shown}
use Rattle.aide_line_text.specs.code.Parts.{attribute_text}
use Rattle.aide_text.proofs.Sheets.{wrote_more, wrote_as}
use Rattle.aide_line_text.proofs.side.put_entry.Goals as goal

pub returns : goal.returns
unfolding object
returns g c =
    let values = (entry_in c.args.view.now).1 in
    wrote_more c.put.ensures (wrote_more
    (wrote_as (items_as (λ a. has c.args.shown a && is_some (values a)) (attribute_text values) (has c.common.result) all_attrs
    (λ a. c.common.ensures a ∙ ap (λ b. has c.args.shown a && b) (c.attrs.ensures a))
    ∙ ap joined (texts_shown (has c.args.shown) values all_attrs)) c.put_attributes.ensures) c.put-2.ensures)
