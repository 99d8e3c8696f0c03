use Rattle.std.proofs.Common.{rules}
use Rattle.aide_attr.proofs.report.reported.Goals as goal

pub returns : goal.returns
returns c = search rules
