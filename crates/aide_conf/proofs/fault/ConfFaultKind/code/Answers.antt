use Rattle.std.proofs.Common.{ap, sym}
use Rattle.aide_conf.specs.Fault.{kind_code}
use Rattle.aide_conf.proofs.fault.ConfFaultKind.code.Goals as goal

pub returns-in-BadLine : goal.returns-in-BadLine
returns-in-BadLine c = ap kind_code (sym c.in-BadLine.is)
