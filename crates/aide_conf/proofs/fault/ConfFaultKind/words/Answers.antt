use Rattle.std.proofs.Common.{ap, sym}
use Rattle.aide_conf.specs.Fault.{kind_words}
use Rattle.aide_conf.proofs.fault.ConfFaultKind.words.Goals as goal

pub returns-in-TooMany : goal.returns-in-TooMany
returns-in-TooMany c = ap kind_words (sym c.in-TooMany.is)
