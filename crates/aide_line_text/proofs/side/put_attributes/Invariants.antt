use Rattle.std.proofs.Common.{drop, true}
use Rattle.aide_attr.specs.Set.{has}
use Rattle.aide_entry.specs.View.{entry_in}
use Rattle.aide_json.specs.code.Items.{items_from}
use Rattle.aide_line_text.specs.code.Parts.{attribute_text}
use Rattle.aide_text.specs.PenSheet.{on_sheet}
use Rattle.aide_text.specs.Sheet.{Writing}
use Rattle.aide_line_text.proofs.side.put_attributes.Given as goal

abbrev pub invariant-loop-attr : goal.invariant-loop-attr
invariant-loop-attr g l =
    Writing (items_from true (has l.set) (attribute_text (entry_in l.view).1) l.attrs)
    (items_from l.first (has l.set) (attribute_text (entry_in l.view).1) (drop l.attr-index l.attrs))
    (on_sheet g.W.Sink l.fn.out l.fn.pen) (on_sheet g.W.Sink l.out l.pen)
