use Rattle.std.proofs.Common.{true, ◌-◌}
use Rattle.aide_json.specs.Number.{count}
use Rattle.aide_json.specs.Value.{print}
use Rattle.aide_json.specs.code.Items.{items_from}
use Rattle.aide_line_text.specs.Ends.{is_skipped, numbers}
use Rattle.aide_text.specs.PenSheet.{on_sheet}
use Rattle.aide_text.specs.Sheet.{Writing}
use Rattle.aide_line_text.proofs.skipped.put_columns.Given as goal

abbrev pub invariant-loop-column : goal.invariant-loop-column
invariant-loop-column g l =
    Writing (items_from true (is_skipped l.columns) (λ n. print (count n)) (numbers 1 64))
    (items_from l.first (is_skipped l.columns) (λ n. print (count n)) (numbers l.column (65 - l.column)))
    (on_sheet g.W.Sink l.fn.out l.fn.pen) (on_sheet g.W.Sink l.out l.pen)
