use Rattle.std.proofs.Common.{rules}
use Rattle.aide_json.proofs.ItemLemmas.{item_wanted, item_unwanted}
use Rattle.aide_text.proofs.Sheets.{wrote_more, wrote_as, wrote_nothing}
use Rattle.aide_line_text.proofs.side.put_next.Goals as goal

pub returns-then-wanted : goal.returns-then-wanted
returns-then-wanted g c = search (rules, wrote_as, item_wanted, wrote_more)

pub returns-else-wanted : goal.returns-else-wanted
returns-else-wanted g c = search (rules, wrote_as, item_unwanted, wrote_nothing)
