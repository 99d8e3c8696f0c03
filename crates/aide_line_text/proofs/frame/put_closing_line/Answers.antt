use Rattle.std.proofs.Common.{codes, true}
use Rattle.aide_json.specs.Number.{count}
use Rattle.aide_json.specs.Value.{print_member, truth}
use Rattle.aide_line_text.proofs.FrameLemmas.{closing_parts}
use Rattle.aide_line_text.specs.Frame.{closing_line, list_member, read_object}
use Rattle.aide_line_text.specs.ReadView.{facts_read}
use Rattle.aide_text.proofs.Sheets.{wrote_more, wrote_as}
use Rattle.aide_line_text.proofs.frame.put_closing_line.Goals as goal

pub returns : goal.returns
unfolding closing_line
returns g c =
    let n = c.args.counts.now in
    let r = c.args.read.now in
    wrote_as (closing_parts (print_member (codes "end", truth true))
    (print_member (codes "old", read_object (facts_read r.compared.old)))
    (print_member (codes "new", read_object (facts_read r.compared.new)))
    (print_member (codes "trusted_old", read_object (facts_read r.trusted.old)))
    (print_member (codes "trusted_new", read_object (facts_read r.trusted.new)))
    (print_member (codes "total", count n.total)) (print_member (codes "added", count n.added))
    (print_member (codes "removed", count n.removed)) (print_member (codes "changed", count n.changed))
    (print_member (codes "same_as_old", count n.same_as_old)) (print_member (codes "same_as_trusted", count n.same_as_trusted))
    (print_member (codes "left_out", count n.left_out)) (print_member (codes "others", count n.others))
    (print_member (list_member r.list.now)) (print_member (codes "status", count c.args.status)))
    (wrote_more c.put.ensures (wrote_more c.put_literal_member.ensures (wrote_more c.put_read_behind.ensures
    (wrote_more c.put_read_behind-2.ensures (wrote_more c.put_read_behind-3.ensures (wrote_more c.put_read_behind-4.ensures
    (wrote_more c.put-2.ensures (wrote_more c.put_counts.ensures (wrote_more c.put-3.ensures
    (wrote_more c.put_accounts.ensures (wrote_more c.put-4.ensures (wrote_more c.put_list.ensures
    (wrote_more c.put-5.ensures (wrote_more c.put_count_member.ensures c.put-6.ensures))))))))))))))
