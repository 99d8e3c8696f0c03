use Rattle.aide_attr.specs.Set.{has}
use Rattle.aide_entry.specs.View.{entry_in}
use Rattle.aide_json.proofs.ItemLemmas.{behind_one}
use Rattle.aide_json.specs.Value.{print_member}
use Rattle.aide_line_text.specs.Entry.{entry_member}
use Rattle.aide_text.proofs.Sheets.{wrote_more, wrote_as}
use Rattle.aide_line_text.proofs.entry.put_entry_behind.Goals as goal

pub returns : goal.returns
returns g c =
    wrote_as (behind_one (print_member (entry_member c.args.name.now (has c.args.shown) (entry_in c.args.view.now).1)))
    (wrote_more c.put.ensures (wrote_more c.put_name.ensures c.put_entry.ensures))
