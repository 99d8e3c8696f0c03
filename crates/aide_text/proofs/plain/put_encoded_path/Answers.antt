use Rattle.std.proofs.Common.{rules}
use Rattle.aide_text.proofs.Sheets.{wrote_more, wrote_as}
use Rattle.aide_text.proofs.plain.put_encoded_path.Goals as goal

pub returns : goal.returns
returns g c = search (rules, wrote_as, wrote_more)
