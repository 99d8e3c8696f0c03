use Rattle.std.proofs.Common.{refl}
use Rattle.aide_report.proofs.finding.Finding.outcome.Goals as goal

pub returns : goal.returns
returns c = refl
