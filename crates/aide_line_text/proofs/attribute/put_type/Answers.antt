use Rattle.std.proofs.Common.{ap}
use Rattle.aide_json.specs.Value.{print_member, word}
use Rattle.aide_text.proofs.Sheets.{wrote_as}
use Rattle.aide_line_text.proofs.attribute.put_type.Goals as goal

pub returns : goal.returns
returns g c =
    wrote_as (ap (λ text. print_member (c.args.name.now, word text)) c.kind_text.ensures) c.put_ready.ensures
