use Rattle.aide_text.specs.Layout.{heading}
use Rattle.aide_text.proofs.Sheets.{wrote_more}
use Rattle.aide_text.proofs.lines.put_heading.Goals as goal

pub returns : goal.returns
unfolding heading
returns g c = wrote_more c.put_indent.ensures (wrote_more c.put_padded.ensures c.put_colon_blank.ensures)
