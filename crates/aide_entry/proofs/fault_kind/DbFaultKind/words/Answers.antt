use Rattle.std.proofs.Common.{ap, sym}
use Rattle.aide_entry.specs.Fault.{words_of_kind}
use Rattle.aide_entry.proofs.fault_kind.DbFaultKind.words.Goals as goal

pub returns-in-NoBegin : goal.returns-in-NoBegin
unfolding words_of_kind
returns-in-NoBegin c = ap words_of_kind (sym c.in-NoBegin.is)
