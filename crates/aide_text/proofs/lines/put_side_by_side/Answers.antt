use Rattle.std.proofs.Common.{rules}
use Rattle.aide_text.proofs.Pieces.{later_lines, first_line, next_and_later, lines_ended, lines_fall}
use Rattle.aide_text.proofs.Sheets.{writing_start, writing_more, writing_as, writing_done}
use Rattle.aide_text.proofs.lines.put_side_by_side.Goals as goal

pub lines-init : goal.lines-init
lines-init g c = search (rules, writing_as, later_lines, writing_more, first_line, writing_start)

pub returns-then-not-more : goal.returns-then-not-more
returns-then-not-more g c = search (rules, writing_done, lines_ended, writing_more, next_and_later)

pub lines-smaller : goal.lines-smaller
lines-smaller g c = search (rules, lines_fall)

pub lines-preserved : goal.lines-preserved
lines-preserved g c = search (rules, writing_as, later_lines, writing_more, next_and_later)
