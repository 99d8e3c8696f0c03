use Rattle.std.proofs.Common.{rules}
use Rattle.aide_text.proofs.Laying.{margin_blank, margin_head}
use Rattle.aide_text.proofs.Sheets.{wrote_as}
use Rattle.aide_text.proofs.lines.put_more_line.Goals as goal

pub lay_pair-len-requires-clause-blank : goal.lay_pair-len-requires-clause-blank
lay_pair-len-requires-clause-blank g c = margin_blank c.blank_line-line.result c.blank_line-line.ensures

pub returns : goal.returns
returns g c = search (rules, wrote_as, margin_head)
