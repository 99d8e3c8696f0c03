use Rattle.aide_text.specs.Layout.{empty_line, ended}
use Rattle.aide_text.proofs.Sheets.{wrote_more}
use Rattle.aide_text.proofs.plain.put_encoded_path_end.Goals as goal

pub returns : goal.returns
unfolding empty_line ended
returns g c = wrote_more c.put_colon_blank.ensures (wrote_more c.put_encoded_path.ensures c.put_newline.ensures)
