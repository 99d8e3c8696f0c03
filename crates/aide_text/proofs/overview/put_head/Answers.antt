use Rattle.std.proofs.Common.{ap, sym}
use Rattle.aide_text.specs.Overview.{head_of}
use Rattle.aide_text.proofs.Sheets.{wrote_as}
use Rattle.aide_text.proofs.overview.put_head.Goals as goal

pub returns-then-differ : goal.returns-then-differ
unfolding head_of
returns-then-differ g c = wrote_as (ap head_of (sym c.if-differ.true)) c.put.ensures

pub returns-else-differ : goal.returns-else-differ
unfolding head_of
returns-else-differ g c = wrote_as (ap head_of (sym c.if-differ.false)) c.put-else-differ.ensures
