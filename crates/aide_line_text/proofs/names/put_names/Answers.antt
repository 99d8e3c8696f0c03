use Rattle.std.proofs.Common.{◌∙◌, sym, subst, ap, arith, drop, get_or, ◌+◌, rules}
use Rattle.std.proofs.lemmas.List.{drop_more, drop_all}
use Rattle.aide_attr.specs.Set.{has}
use Rattle.aide_attr.specs.declared.attr.Attr.TheVariants.{Ftype}
use Rattle.aide_json.proofs.ItemLemmas.{items_more, items_end, item_wanted, item_unwanted}
use Rattle.aide_json.specs.Json.{quoted}
use Rattle.aide_json.specs.Value.{print}
use Rattle.aide_json.specs.code.Items.{next_item}
use Rattle.aide_line_text.proofs.SettingsLemmas.{behind_wanted, behind_unwanted}
use Rattle.aide_line_text.specs.Settings.{attr_word}
use Rattle.aide_text.specs.PenSheet.{on_sheet}
use Rattle.aide_text.specs.Sheet.{Wrote}
use Rattle.aide_text.proofs.Sheets.{writing_more, writing_done, wrote_more, wrote_as, wrote_nothing}
use Rattle.aide_line_text.proofs.names.put_names.Goals.{then-has, else-has}
use Rattle.aide_line_text.proofs.names.put_names.Goals as goal

pub loop-attr-preserved : goal.loop-attr-preserved
loop-attr-preserved g c =
    let i = c.loop-attr.attr-index in
    let attrs = c.args.attrs.now in
    let attr = get_or attrs i Ftype in
    let first = c.loop-attr.first in
    let before = on_sheet g.W.Sink c.loop-attr.out c.loop-attr.pen in
    let item = next_item c.has.result first (print (attr_word attr)) in
    elim c.if-has.branch [
      | then-has w ↦
          writing_more (items_more (has c.args.set) (λ a. print (attr_word a)) first c.has.result
          c.if-has.first (drop i attrs) attr (drop (i + 1) attrs)
          (drop_more attrs i Ftype (omega arith)) c.has.ensures (w.first-is ∙ behind_wanted first c.has.result w.if-has.true))
          c.loop-attr.invariant
          (subst (λ s. Wrote item before s)
          (sym (ap (λ out. on_sheet g.W.Sink out c.if-has.pen) w.out-is ∙ ap (λ pen. on_sheet g.W.Sink w.put_quoted.new.out pen) w.pen-is))
          (wrote_as (item_wanted c.has.result first (print (attr_word attr)) w.if-has.true)
          (wrote_more w.put_comma.ensures (wrote_as (ap quoted w.name.ensures) w.put_quoted.ensures))))
      | else-has w ↦
          writing_more (items_more (has c.args.set) (λ a. print (attr_word a)) first c.has.result
          c.if-has.first (drop i attrs) attr (drop (i + 1) attrs)
          (drop_more attrs i Ftype (omega arith)) c.has.ensures (w.first-is ∙ behind_unwanted first c.has.result w.if-has.false))
          c.loop-attr.invariant
          (subst (λ s. Wrote item before s)
          (sym (ap (λ out. on_sheet g.W.Sink out c.if-has.pen) w.out-is ∙ ap (λ pen. on_sheet g.W.Sink c.loop-attr.out pen) w.pen-is))
          (wrote_as (item_unwanted c.has.result first (print (attr_word attr)) w.if-has.false) (wrote_nothing before)))
    ]

pub returns : goal.returns
returns g c = search (rules, writing_done, items_end, drop_all)
