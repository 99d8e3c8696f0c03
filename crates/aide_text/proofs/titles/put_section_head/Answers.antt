use Rattle.std.proofs.Common.{rules}
use Rattle.aide_text.specs.Titles.{section_head}
use Rattle.aide_text.proofs.Sheets.{wrote_more, wrote_as}
use Rattle.aide_text.proofs.titles.put_section_head.Goals as goal

pub returns : goal.returns
unfolding section_head
returns g c = search (rules, wrote_more, wrote_as)
