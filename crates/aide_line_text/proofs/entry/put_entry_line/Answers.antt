use Rattle.std.proofs.Common.{ap}
use Rattle.aide_agreement.specs.ChangeView.{found_in}
use Rattle.aide_attr.specs.Set.{has}
use Rattle.aide_line_text.proofs.LineLemmas.{parts_line}
use Rattle.aide_line_text.specs.Entry.{type_member}
use Rattle.aide_line_text.specs.code.Parts.{any_behind, entry_head, entry_parts}
use Rattle.aide_text.proofs.Sheets.{wrote_more, wrote_as}
use Rattle.aide_line_text.proofs.entry.put_entry_line.Goals as goal

pub returns : goal.returns
unfolding entry_parts
returns g c =
    wrote_as (parts_line (g.B.Feed.rest c.args.path) c.args.remark.letters.now c.args.remark.account (has c.args.remark.shown)
    (found_in c.args.change))
    (wrote_more (wrote_as (ap (λ w. entry_head w (g.B.Feed.rest c.args.path) c.args.remark.letters.now)
    c.kind_word.ensures) c.put_head.ensures)
    (wrote_more c.put_account_behind.ensures
    (wrote_more (wrote_as (ap (any_behind type_member) c.type_at.ensures) c.put_type_behind.ensures)
    (wrote_more c.put_entries.ensures c.put.ensures))))
