use Rattle.std.proofs.Common.{ap}
use Rattle.aide_text.specs.Overview.{head_of, overview_of}
use Rattle.aide_text.proofs.Sheets.{wrote_more, wrote_as}
use Rattle.aide_text.proofs.overview.put_overview.Goals as goal

pub returns : goal.returns
unfolding overview_of
returns g c = wrote_more (wrote_as (ap head_of c.databases_differ.ensures) c.put_head.ensures) c.put_wanted_summary.ensures
