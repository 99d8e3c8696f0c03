use Rattle.std.proofs.Common.{ap}
use Rattle.aide_json.specs.Value.{print_member, text_member}
use Rattle.aide_text.proofs.Sheets.{wrote_as, wrote_more}
use Rattle.aide_line_text.proofs.frame.put_path_behind.Goals as goal

pub returns : goal.returns
returns g c =
    wrote_more c.put.ensures
    (wrote_as (ap (λ path. print_member (text_member c.args.name.now path)) c.of.ensures) c.put_text_member.ensures)
