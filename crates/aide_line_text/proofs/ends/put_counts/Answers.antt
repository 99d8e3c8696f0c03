use Rattle.std.proofs.Common.{sym, codes}
use Rattle.std.proofs.lemmas.List.{append-nil}
use Rattle.aide_json.specs.Number.{count}
use Rattle.aide_json.specs.Value.{print_member}
use Rattle.aide_text.proofs.Sheets.{wrote_more, wrote_as}
use Rattle.aide_line_text.proofs.ends.put_counts.Goals as goal

pub returns : goal.returns
returns g c =
    wrote_more c.put_count_member.ensures (wrote_more c.put.ensures (wrote_more c.put_count_member-2.ensures (wrote_more c.put-2.ensures
    (wrote_more c.put_count_member-3.ensures (wrote_more c.put-3.ensures
    (wrote_as (sym (append-nil (print_member (codes "changed", count c.args.counts.now.changed)))) c.put_count_member-4.ensures))))))
