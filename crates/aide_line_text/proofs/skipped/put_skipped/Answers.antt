use Rattle.std.proofs.Common.{◌∙◌, ap, refl}
use Rattle.std.specs.List.{filter}
use Rattle.aide_json.proofs.ItemLemmas.{items_as, texts_mapped}
use Rattle.aide_json.specs.Number.{count}
use Rattle.aide_json.specs.Object.{array, joined}
use Rattle.aide_json.specs.Value.{print}
use Rattle.aide_line_text.specs.Ends.{is_skipped, numbers}
use Rattle.aide_text.proofs.Sheets.{wrote_more, wrote_as}
use Rattle.aide_line_text.proofs.skipped.put_skipped.Goals as goal

pub returns : goal.returns
unfolding array
returns g c =
    let skipped = is_skipped c.args.columns in
    wrote_more c.put.ensures (wrote_more
    (wrote_as (items_as skipped (λ n. print (count n)) skipped (numbers 1 64) (λ column. refl)
    ∙ ap joined (texts_mapped count (filter skipped (numbers 1 64)))) c.put_columns.ensures) c.put-2.ensures)
