use Rattle.std.proofs.Common.{rules}
use Rattle.aide_merge.proofs.StandingLemmas.{ended_at}
use Rattle.aide_merge.proofs.SideLemmas.{of_sides}
use Rattle.aide_merge.proofs.readings.readings_of.Goals as goal

pub returns : goal.returns
returns g c desk = search (rules, of_sides, ended_at)
