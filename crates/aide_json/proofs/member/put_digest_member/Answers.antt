use Rattle.std.proofs.Common.{ap}
use Rattle.aide_json.specs.Value.{print_member, word}
use Rattle.aide_json.specs.Json.{quoted}
use Rattle.aide_text.proofs.Sheets.{wrote_as}
use Rattle.aide_json.proofs.member.put_digest_member.Goals as goal

pub returns : goal.returns
unfolding quoted
returns g c = wrote_as (ap (λ digits. print_member (c.args.name.now, word digits)) c.encode.ensures) c.put_word_member.ensures
