use Rattle.aide_text.specs.Overview.{summary_of}
use Rattle.aide_text.proofs.Sheets.{wrote_more}
use Rattle.aide_text.proofs.overview.put_summary.Goals as goal

pub returns : goal.returns
unfolding summary_of
returns g c = wrote_more c.put_summary_title.ensures (wrote_more c.put_first_numbers.ensures c.put_last_numbers.ensures)
