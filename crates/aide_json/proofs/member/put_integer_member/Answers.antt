use Rattle.std.proofs.Common.{rules}
use Rattle.std.proofs.lemmas.Int.{to_z-of_z}
use Rattle.aide_text.proofs.Sheets.{wrote_as, wrote_more}
use Rattle.aide_json.proofs.member.put_integer_member.Goals as goal

pub returns : goal.returns
returns g c = search (rules, wrote_as, to_z-of_z, wrote_more)
