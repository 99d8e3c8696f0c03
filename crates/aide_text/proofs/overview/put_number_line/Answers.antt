use Rattle.aide_text.specs.Layout.{empty_line, ended}
use Rattle.aide_text.specs.Overview.{number_line}
use Rattle.aide_text.proofs.Sheets.{wrote_more}
use Rattle.aide_text.proofs.overview.put_number_line.Goals as goal

pub returns : goal.returns
unfolding empty_line ended number_line
returns g c = wrote_more c.put.ensures (wrote_more c.put_number.ensures c.put_newline.ensures)
