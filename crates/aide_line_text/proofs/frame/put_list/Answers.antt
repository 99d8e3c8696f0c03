use Rattle.std.proofs.Common.{codes}
use Rattle.aide_json.specs.Value.{base16, print_member}
use Rattle.aide_line_text.proofs.FrameLemmas.{digest_parts}
use Rattle.aide_text.proofs.Sheets.{wrote_more, wrote_as}
use Rattle.aide_line_text.proofs.frame.put_list.Goals as goal

pub returns : goal.returns
returns g c =
    wrote_more c.put_name.ensures (wrote_as (digest_parts (print_member (codes "sha256", base16 c.args.digest.now)))
    (wrote_more c.put.ensures (wrote_more c.put_digest_member.ensures c.put-2.ensures)))
