use Rattle.std.proofs.Common.{ap, ◌++◌}
use Rattle.aide_text.specs.Layout.{path_line, colon_blank, ended}
use Rattle.aide_text.specs.Printed.{printed}
use Rattle.aide_text.proofs.Sheets.{wrote_more, wrote_as}
use Rattle.aide_report.proofs.entries.put_line.Goals as goal

pub returns : goal.returns
unfolding path_line
returns g c =
    wrote_more c.put_label.ensures (wrote_as (ap (λ path. colon_blank ++ ended (printed path)) c.name_of.ensures)
    c.put_encoded_path_end.ensures)
