use Rattle.aide_text.specs.Titles.{titled}
use Rattle.aide_text.proofs.Sheets.{wrote_more}
use Rattle.aide_text.proofs.titles.put_titled.Goals as goal

pub returns : goal.returns
unfolding titled
returns g c = wrote_more c.put_rule_before.ensures (wrote_more c.put_ended.ensures c.put_rule_after.ensures)
