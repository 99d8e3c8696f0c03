use Rattle.std.proofs.Common.{◌∙◌, sym, ap, rules}
use Rattle.std.specs.Prelude.{not}
use Rattle.aide_attr.specs.Attr.{all_attrs}
use Rattle.aide_attr.specs.Set.{has}
use Rattle.aide_merge.specs.code.ChangeView.{change_of}
use Rattle.aide_report_specs.specs.Entries.{entry_details}
use Rattle.aide_merge.specs.Said.{shows_at, shows_any}
use Rattle.aide_text.specs.Layout.{path_line}
use Rattle.aide_text.specs.declared.section.Contents.TheVariants.{Detailed}
use Rattle.aide_report.proofs.EntriesLemmas.{shown_as, text_of_one, text_of_none}
use Rattle.aide_agreement.proofs.ListLemmas.{any_in}
use Rattle.aide_text.proofs.Sheets.{wrote_more, wrote_as, wrote_nothing}
use Rattle.aide_report.proofs.details.put_details.Goals as goal

pub returns-then-not-is_empty : goal.returns-then-not-is_empty
unfolding entry_details shows_any
returns-then-not-is_empty g c =
    wrote_as (text_of_one c.args.options.now Detailed (change_of c.args.change)
    (sym (any_in c.said_of.result.0 (shows_at c.args.options.now (change_of c.args.change).1) c.is_empty.result c.said_of.ensures.shown
    c.is_empty.ensures) ∙ ap not c.if-not-is_empty.true))
    (wrote_more c.put_newline.ensures (wrote_more (wrote_as
    (λ i. path_line (c.title.ensures i) (c.name_of.ensures i)) c.put_encoded_path_line.ensures)
    (wrote_as (shown_as c.args.options.now.base16 (change_of c.args.change).1 (has c.said_of.result.0)
    (shows_at c.args.options.now (change_of c.args.change).1) all_attrs c.said_of.ensures.shown) c.put_attributes.ensures)))

pub returns-else-not-is_empty : goal.returns-else-not-is_empty
unfolding shows_any
returns-else-not-is_empty g c = search (rules, wrote_as, text_of_none, any_in, wrote_nothing)
