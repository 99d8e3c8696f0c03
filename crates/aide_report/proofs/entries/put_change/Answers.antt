use Rattle.std.proofs.Common.{◌∙◌, sym, rules}
use Rattle.aide_merge.specs.code.ChangeView.{change_of}
use Rattle.aide_report.proofs.EntriesLemmas.{listed_text, unlisted_text}
use Rattle.aide_text.proofs.Sheets.{wrote_as, wrote_nothing}
use Rattle.aide_report.proofs.entries.put_change.Goals as goal

pub returns-then-lists : goal.returns-then-lists
returns-then-lists g c =
    wrote_as (listed_text c.args.options.now c.args.contents (change_of c.args.change) (sym c.lists.ensures ∙ c.if-lists.true))
    c.put_listed.ensures

pub returns-else-lists : goal.returns-else-lists
returns-else-lists g c = search (rules, wrote_as, unlisted_text, wrote_nothing)
