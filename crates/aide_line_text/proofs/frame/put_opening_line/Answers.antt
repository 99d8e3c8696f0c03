use Rattle.std.proofs.Common.{codes}
use Rattle.aide_json.specs.Number.{count}
use Rattle.aide_json.specs.Value.{print_member, text_member}
use Rattle.aide_line_text.proofs.FrameLemmas.{opening_parts}
use Rattle.aide_line_text.specs.Frame.{opening_line}
use Rattle.aide_text.proofs.Sheets.{wrote_more, wrote_as}
use Rattle.aide_line_text.proofs.frame.put_opening_line.Goals as goal

pub returns : goal.returns
unfolding opening_line
returns g c =
    wrote_as (opening_parts (print_member (codes "format", count 4))
    (print_member (text_member (codes "old") c.args.old_path.now)) (print_member (text_member (codes "new") c.args.new_path.now))
    (print_member (text_member (codes "trusted_old") c.args.trusted_old.now))
    (print_member (text_member (codes "trusted_new") c.args.trusted_new.now)))
    (wrote_more c.put.ensures (wrote_more c.put_count_member.ensures (wrote_more c.put_path_behind.ensures
    (wrote_more c.put_path_behind-2.ensures (wrote_more c.put_path_behind-3.ensures
    (wrote_more c.put_path_behind-4.ensures c.put-2.ensures))))))
