use Rattle.std.proofs.Common.{arith}
use Rattle.aide_text.proofs.Laying.{named}
use Rattle.aide_text.proofs.columns.lay_name.Goals as goal

pub returns : goal.returns
returns c = rw c.copy_from_slice.ensures.after (named _ c.args.line.now c.args.name.now (omega arith) c.requires.short c.requires.blank)
