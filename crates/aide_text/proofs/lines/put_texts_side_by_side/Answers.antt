use Rattle.std.proofs.Common.{rules}
use Rattle.aide_text.proofs.Pieces.{later_lines, first_line, lines_fall, short_piece, some_lines, no_lines}
use Rattle.aide_text.proofs.Sheets.{writing_start, writing_more, writing_as, writing_done, wrote_as}
use Rattle.aide_text.proofs.lines.put_texts_side_by_side.Goals as goal

pub put_first_line-requires-clause-old_short : goal.put_first_line-requires-clause-old_short
put_first_line-requires-clause-old_short g c = short_piece c.args.old_text.now c.piece.result.now c.piece.ensures

pub put_first_line-requires-clause-new_short : goal.put_first_line-requires-clause-new_short
put_first_line-requires-clause-new_short g c = short_piece c.args.new_text.now c.piece-2.result.now c.piece-2.ensures

pub put_more_line-requires-clause-old_short : goal.put_more_line-requires-clause-old_short
put_more_line-requires-clause-old_short g c = short_piece c.lines.old_rest.now c.piece-in-lines.result.now c.piece-in-lines.ensures

pub put_more_line-requires-clause-new_short : goal.put_more_line-requires-clause-new_short
put_more_line-requires-clause-new_short g c = short_piece c.lines.new_rest.now c.piece-in-lines-2.result.now c.piece-in-lines-2.ensures

pub lines-init : goal.lines-init
lines-init g c = search (rules, writing_as, later_lines, writing_more, first_line, writing_start, wrote_as)

pub lines-smaller : goal.lines-smaller
lines-smaller g c = search (rules, lines_fall)

pub lines-preserved : goal.lines-preserved
lines-preserved g c = search (rules, writing_as, later_lines, writing_more, some_lines, wrote_as)

pub returns : goal.returns
returns g c = search (rules, writing_done, no_lines)
