use Rattle.std.proofs.Common.{◌∙◌, sym, ap}
use Rattle.aide_entry.specs.View.{columns_under}
use Rattle.aide_json.specs.Value.{print_member, word}
use Rattle.aide_text.specs.ValueText.{option_text, type_text}
use Rattle.aide_text.proofs.Sheets.{wrote_as}
use Rattle.aide_line_text.proofs.FormLemmas.{kind_at, link_at}
use Rattle.aide_line_text.proofs.attribute.put_attribute.Goals as goal

pub returns-in-Kind : goal.returns-in-Kind
returns-in-Kind g c =
    let name = c.detail_name-name.result.now in
    let view = c.args.view.now in
    wrote_as (ap (option_text (λ kind. print_member (name, word (type_text kind)))) c.kind.ensures
    ∙ kind_at name c.args.attr (columns_under view) view.line.now c.detail_name-name.ensures
    (sym c.form.ensures.same ∙ c.in-Kind.is)) c.put_kind.ensures

pub returns-in-Link : goal.returns-in-Link
returns-in-Link g c =
    let view = c.args.view.now in
    wrote_as (link_at c.detail_name-name.result.now c.args.attr (columns_under view) view.line.now c.detail_name-name.ensures
    (sym c.form.ensures.same ∙ c.in-Link.is)) c.put_link.ensures
