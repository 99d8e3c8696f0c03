use Rattle.std.proofs.Common.{◌∙◌, ap}
use Rattle.aide_line_text.specs.Entry.{entry_line}
use Rattle.aide_line_run.specs.ChangeLines.{change_line}
use Rattle.aide_merge.specs.Said.{shows_at}
use Rattle.aide_merge.specs.code.ChangeView.{change_of}
use Rattle.aide_text.proofs.Sheets.{wrote_as}
use Rattle.aide_line_run.proofs.change_lines.put_change_line.Goals as goal

pub returns : goal.returns
unfolding change_line
returns g c =
    wrote_as (λ i. entry_line (c.path_of.ensures i) (c.requires i) c.args.account
    (λ a. (c.said_of.ensures.shown a ∙ ap (λ options. shows_at options (change_of c.args.change).1 a) c.widest.ensures) i)
    (change_of c.args.change).1) c.put_entry_line.ensures
