use Rattle.std.proofs.Common.{ap, sym}
use Rattle.aide_left_out.specs.Rights.{is_known}
use Rattle.aide_left_out.proofs.entry.is_known.Goals as goal

pub returns-in-Other : goal.returns-in-Other
returns-in-Other c = sym (ap is_known c.in-Other.is)
