use Rattle.std.proofs.Common.{rules}
use Rattle.aide_text.proofs.Pieces.{later_single, single_first, single_some, single_none, no_length, single_shorter}
use Rattle.aide_text.proofs.Sheets.{writing_start, writing_more, writing_as, writing_done}
use Rattle.aide_text.proofs.lines.put_alone.Goals as goal

pub lines-init : goal.lines-init
lines-init g c = search (rules, writing_as, later_single, writing_more, single_first, writing_start)

pub lines-smaller : goal.lines-smaller
lines-smaller g c = search (rules, single_shorter)

pub lines-preserved : goal.lines-preserved
lines-preserved g c = search (rules, writing_as, later_single, writing_more, single_some)

pub returns : goal.returns
returns g c = search (rules, writing_done, single_none, no_length)
