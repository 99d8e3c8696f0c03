use Rattle.std.proofs.Common.{◌∙◌, ap, sym}
use Rattle.aide_json.proofs.ItemLemmas.{behind_one}
use Rattle.aide_json.specs.Value.{print_member}
use Rattle.aide_line_text.specs.Entry.{account_member}
use Rattle.aide_line_text.specs.code.Parts.{any_behind}
use Rattle.aide_text.proofs.Sheets.{wrote_more, wrote_as}
use Rattle.aide_line_text.proofs.entry.put_account_behind.Goals as goal

pub returns-in-Some : goal.returns-in-Some
returns-in-Some g c =
    wrote_as (behind_one (print_member (account_member c.in-Some.account)) ∙ ap (any_behind account_member) (sym c.in-Some.is))
    (wrote_more c.put.ensures c.put_account.ensures)
