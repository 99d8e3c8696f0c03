use Rattle.aide_text.specs.Layout.{path_line}
use Rattle.aide_text.proofs.Sheets.{wrote_more}
use Rattle.aide_text.proofs.plain.put_encoded_path_line.Goals as goal

pub returns : goal.returns
unfolding path_line
returns g c = wrote_more c.put.ensures c.put_encoded_path_end.ensures
