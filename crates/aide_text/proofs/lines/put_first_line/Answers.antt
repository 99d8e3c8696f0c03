use Rattle.std.proofs.Common.{rules}
use Rattle.aide_text.specs.Layout.{pair_line}
use Rattle.aide_text.proofs.Laying.{heading_blank, heading_head}
use Rattle.aide_text.proofs.Sheets.{wrote_as, wrote_more}
use Rattle.aide_text.proofs.lines.put_first_line.Goals as goal

pub returns-then-name-gt10 : goal.returns-then-name-gt10
unfolding pair_line
returns-then-name-gt10 g c = wrote_more c.put_heading.ensures c.put_pair.ensures

pub lay_pair-len-requires-clause-blank : goal.lay_pair-len-requires-clause-blank
lay_pair-len-requires-clause-blank g c = search (rules, heading_blank)

pub returns : goal.returns
returns g c = search (rules, wrote_as, heading_head)
