use Rattle.aide_text.specs.Overview.{last_numbers}
use Rattle.aide_text.proofs.Sheets.{wrote_more}
use Rattle.aide_text.proofs.overview.put_last_numbers.Goals as goal

pub returns : goal.returns
unfolding last_numbers
returns g c = wrote_more c.put_number_line.ensures c.put_number_line-2.ensures
