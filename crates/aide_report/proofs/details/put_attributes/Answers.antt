use Rattle.std.proofs.Common.{arith}
use Rattle.aide_attr.specs.Set.{has}
use Rattle.aide_attr.specs.declared.attr.Attr.TheVariants.{Ftype}
use Rattle.aide_merge.specs.code.ChangeView.{change_of}
use Rattle.aide_report_specs.specs.Entries.{attributes_text}
use Rattle.aide_text.specs.PenSheet.{on_sheet}
use Rattle.aide_report.proofs.EntriesLemmas.{shown_drop, shown_end}
use Rattle.aide_text.proofs.Sheets.{writing_start, writing_more, writing_done}
use Rattle.aide_report.proofs.details.put_attributes.Goals as goal

pub loop-attr-init : goal.loop-attr-init
loop-attr-init g c =
    writing_start (attributes_text c.args.base16 (change_of c.args.change).1 (has c.args.shown) c.args.attrs.now)
    (on_sheet g.W.Sink c.args.out.now c.args.pen.now)

pub loop-attr-preserved : goal.loop-attr-preserved
loop-attr-preserved g c =
    writing_more (shown_drop c.args.base16 (change_of c.args.change).1 (has c.args.shown) c.args.attrs.now c.loop-attr.attr-index Ftype
    (omega arith)) c.loop-attr.invariant c.put_if_shown.ensures

pub returns : goal.returns
returns g c =
    writing_done (shown_end c.args.base16 (change_of c.args.change).1 (has c.args.shown) c.args.attrs.now c.loop-attr.attr-index
    (omega arith)) c.loop-attr.invariant
