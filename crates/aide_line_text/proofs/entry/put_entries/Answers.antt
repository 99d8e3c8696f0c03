use Rattle.std.proofs.Common.{rules}
use Rattle.aide_text.proofs.Sheets.{wrote_more, wrote_as}
use Rattle.aide_line_text.proofs.entry.put_entries.Goals as goal

pub returns-in-Common : goal.returns-in-Common
returns-in-Common g c = search (rules, wrote_as, wrote_more)
