use Rattle.std.proofs.Common.{rules}
use Rattle.aide_text.proofs.Pieces.{has_pieces, next_by}
use Rattle.aide_text.proofs.Sheets.{wrote_as}
use Rattle.aide_text.proofs.lines.put_next_line.Goals as goal

pub returns-clause-wrote : goal.returns-clause-wrote
returns-clause-wrote g c = search (rules, wrote_as, next_by, has_pieces)
