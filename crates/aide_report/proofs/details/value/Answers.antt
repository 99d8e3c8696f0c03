use Rattle.std.proofs.Common.{◌∙◌, sym, ap}
use Rattle.aide_entry.specs.View.{entry_in}
use Rattle.aide_text.specs.ValueText.{option_text, type_text}
use Rattle.aide_report.proofs.FormLemmas.{kind_at, link_at}
use Rattle.aide_report.proofs.details.value.Goals as goal

pub returns-in-Kind : goal.returns-in-Kind
returns-in-Kind c =
    c.kind_text.ensures ∙ ap (option_text type_text) c.kind.ensures
    ∙ kind_at c.args.base16 c.args.attr (entry_in c.args.view.now).1 (sym c.form.ensures.same ∙ c.in-Kind.is)

pub returns-in-Link : goal.returns-in-Link
returns-in-Link c =
    c.link_value.ensures ∙ link_at c.args.base16 c.args.attr (entry_in c.args.view.now).1 (sym c.form.ensures.same ∙ c.in-Link.is)
