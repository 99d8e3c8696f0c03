use Rattle.aide_site.specs.Lines.{skipped_line}
use Rattle.aide_text.proofs.Sheets.{wrote_as, wrote_more}
use Rattle.aide_site.proofs.lines.put_skipped_line.Goals as goal

pub returns : goal.returns
unfolding skipped_line
returns g c =
    wrote_more c.put.ensures (wrote_more (wrote_as c.side_name.ensures c.put-2.ensures)
    (wrote_more c.put-3.ensures (wrote_more c.put_number.ensures c.put-4.ensures)))
