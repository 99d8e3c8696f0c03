use Rattle.std.proofs.Common.{true, ◌-◌, ◌+◌, arith, rules}
use Rattle.aide_json.proofs.ItemLemmas.{items_more, items_end}
use Rattle.aide_json.specs.Number.{count}
use Rattle.aide_json.specs.Value.{print}
use Rattle.aide_json.specs.code.Items.{items_from}
use Rattle.aide_line_text.proofs.ColumnLemmas.{numbers_more, numbers_end}
use Rattle.aide_line_text.specs.Ends.{is_skipped, numbers}
use Rattle.aide_text.specs.PenSheet.{on_sheet}
use Rattle.aide_text.proofs.Sheets.{writing_start, writing_more, writing_done}
use Rattle.aide_line_text.proofs.skipped.put_columns.Goals as goal

pub loop-column-init : goal.loop-column-init
loop-column-init g c =
    writing_start (items_from true (is_skipped c.args.columns) (λ n. print (count n)) (numbers 1 64))
    (on_sheet g.W.Sink c.args.out.now c.args.pen.now)

pub loop-column-preserved : goal.loop-column-preserved
loop-column-preserved g c =
    let n = c.loop-column.column in
    writing_more (items_more (is_skipped c.args.columns) (λ n. print (count n)) c.loop-column.first
    c.is_skipped-skipped.result c.is_still_first-first.result
    (numbers n (65 - n)) n (numbers (n + 1) (65 - (n + 1))) (numbers_more n (omega arith))
    c.is_skipped-skipped.ensures c.is_still_first-first.ensures)
    c.loop-column.invariant c.put_next.ensures

pub returns : goal.returns
returns g c = search (rules, writing_done, items_end, numbers_end)
