use Rattle.aide_text.proofs.Sheets.{wrote_more, wrote_as}
use Rattle.aide_json.proofs.string.put_hex.Goals as goal

pub returns : goal.returns
returns g c = wrote_more c.put.ensures (wrote_more (wrote_as c.of.ensures c.put_feed.ensures) c.put-2.ensures)
