use Rattle.std.proofs.Common.{ap}
use Rattle.aide_text.specs.Layout.{ended, single_line}
use Rattle.aide_text.proofs.Sheets.{wrote_more, wrote_as}
use Rattle.aide_text.proofs.lines.put_first.Goals as goal

pub returns : goal.returns
unfolding single_line
returns g c = wrote_more c.put_heading.ensures (wrote_as (ap ended c.piece.ensures) c.put_ended.ensures)
