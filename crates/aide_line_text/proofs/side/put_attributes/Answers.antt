use Rattle.std.proofs.Common.{arith, drop, get_or, ◌+◌, rules}
use Rattle.std.proofs.lemmas.List.{drop_more, drop_all}
use Rattle.aide_attr.specs.Set.{has}
use Rattle.aide_attr.specs.declared.attr.Attr.TheVariants.{Ftype}
use Rattle.aide_entry.specs.View.{entry_in}
use Rattle.aide_json.proofs.ItemLemmas.{items_more, items_end}
use Rattle.aide_line_text.specs.code.Parts.{attribute_text}
use Rattle.aide_text.proofs.Sheets.{writing_start, writing_more, writing_done}
use Rattle.aide_line_text.proofs.side.put_attributes.Goals as goal

pub loop-attr-init : goal.loop-attr-init
loop-attr-init g c = search (rules, writing_start)

pub loop-attr-preserved : goal.loop-attr-preserved
loop-attr-preserved g c =
    let i = c.loop-attr.attr-index in
    let attrs = c.args.attrs.now in
    writing_more (items_more (has c.args.set) (attribute_text (entry_in c.args.view.now).1) c.loop-attr.first
    c.has-wanted.result c.is_still_first-first.result
    (drop i attrs) (get_or attrs i Ftype) (drop (i + 1) attrs) (drop_more attrs i Ftype (omega arith))
    c.has-wanted.ensures c.is_still_first-first.ensures)
    c.loop-attr.invariant c.put_next.ensures

pub returns : goal.returns
returns g c = search (rules, writing_done, items_end, drop_all)
