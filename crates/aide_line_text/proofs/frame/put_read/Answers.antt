use Rattle.std.proofs.Common.{codes}
use Rattle.aide_json.specs.Value.{base16, print_member}
use Rattle.aide_line_text.proofs.FrameLemmas.{read_parts}
use Rattle.aide_line_text.specs.Ends.{skipped_array}
use Rattle.aide_text.proofs.Sheets.{wrote_more, wrote_as}
use Rattle.aide_line_text.proofs.frame.put_read.Goals as goal

pub returns : goal.returns
returns g c =
    let r = c.args.read.now in
    wrote_as (read_parts (print_member (codes "sha256", base16 r.digest.now)) (print_member (codes "skipped", skipped_array r.skipped)))
    (wrote_more c.put.ensures (wrote_more c.put_digest_member.ensures (wrote_more c.put-2.ensures
    (wrote_more (wrote_more c.put_name.ensures c.put_skipped.ensures) c.put-3.ensures))))
