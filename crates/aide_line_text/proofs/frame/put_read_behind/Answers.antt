use Rattle.aide_text.proofs.Sheets.{wrote_more}
use Rattle.aide_line_text.proofs.frame.put_read_behind.Goals as goal

pub returns : goal.returns
returns g c = wrote_more c.put.ensures (wrote_more c.put_name.ensures c.put_read.ensures)
