use Rattle.aide_text.proofs.Sheets.{wrote_more}
use Rattle.aide_json.proofs.member.put_count_member.Goals as goal

pub returns : goal.returns
returns g c = wrote_more c.put_name.ensures c.put_count.ensures
