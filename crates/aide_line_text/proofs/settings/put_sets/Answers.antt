use Rattle.std.proofs.Common.{sym, codes}
use Rattle.std.proofs.lemmas.List.{append-nil}
use Rattle.aide_json.specs.Value.{print_member}
use Rattle.aide_line_text.specs.Settings.{attrs_array}
use Rattle.aide_text.proofs.Sheets.{wrote_more, wrote_as}
use Rattle.aide_line_text.proofs.settings.put_sets.Goals as goal

pub returns : goal.returns
returns g c =
    wrote_more c.put_attrs.ensures (wrote_more c.put.ensures (wrote_more c.put_attrs-2.ensures (wrote_more c.put-2.ensures
    (wrote_more c.put_attrs-3.ensures (wrote_more c.put-3.ensures
    (wrote_as (sym (append-nil (print_member (codes "report_force_attrs", attrs_array c.args.ignore.now.force))))
    c.put_attrs-4.ensures))))))
