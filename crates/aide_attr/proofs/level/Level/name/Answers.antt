use Rattle.std.proofs.Common.{ap, sym}
use Rattle.aide_attr.specs.Level.{level_name}
use Rattle.aide_attr.proofs.level.Level.name.Goals as goal

pub returns-in-DatabaseAttributes : goal.returns-in-DatabaseAttributes
returns-in-DatabaseAttributes c = ap level_name (sym c.in-DatabaseAttributes.is)
