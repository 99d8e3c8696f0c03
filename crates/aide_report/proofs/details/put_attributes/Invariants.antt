use Rattle.std.proofs.Common.{drop}
use Rattle.aide_attr.specs.Set.{has}
use Rattle.aide_merge.specs.code.ChangeView.{change_of}
use Rattle.aide_report_specs.specs.Entries.{attributes_text}
use Rattle.aide_text.specs.PenSheet.{on_sheet}
use Rattle.aide_text.specs.Sheet.{Writing}
use Rattle.aide_report.proofs.details.put_attributes.Given as goal

abbrev pub invariant-loop-attr : goal.invariant-loop-attr
invariant-loop-attr g l =
    Writing (attributes_text l.base16 (change_of l.change).1 (has l.shown) l.attrs)
    (attributes_text l.base16 (change_of l.change).1 (has l.shown) (drop l.attr-index l.attrs))
    (on_sheet g.W.Sink l.fn.out l.fn.pen) (on_sheet g.W.Sink l.out l.pen)
