use Rattle.std.proofs.Common.{◌∙◌, sym}
use Rattle.aide_report_specs.specs.Entries.{attribute_text}
use Rattle.aide_text.specs.Layout.{side_by_side}
use Rattle.aide_text.proofs.Sheets.{wrote_as}
use Rattle.aide_report.proofs.details.put_attribute.Goals as goal

pub returns-in-Some-bytes_of : goal.returns-in-Some-bytes_of
unfolding attribute_text
returns-in-Some-bytes_of g c =
    wrote_as (λ i. side_by_side (c.detail_name-name.ensures i) ((sym c.in-Some.ensures ∙ c.old_value-old.ensures) i)
    ((sym c.in-Some-bytes_of.ensures ∙ c.new_value-new.ensures) i)) c.put_texts_side_by_side.ensures

pub returns : goal.returns
unfolding attribute_text
returns g c =
    wrote_as (λ i. side_by_side (c.detail_name-name.ensures i) (c.old_value-old.ensures i) (c.new_value-new.ensures i))
    c.put_side_by_side.ensures
