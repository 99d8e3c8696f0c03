use Rattle.std.proofs.Common.{rules}
use Rattle.aide_text.specs.Layout.{padded}
use Rattle.aide_text.proofs.Sheets.{wrote_more, wrote_as}
use Rattle.aide_text.proofs.lines.put_padded.Goals as goal

pub returns : goal.returns
unfolding padded
returns g c = search (rules, wrote_more, wrote_as)
