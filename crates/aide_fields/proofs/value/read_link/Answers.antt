use Rattle.std.proofs.Common.{rules}
use Rattle.percent_encoding.specs.Percent.{percent_decode}
use Rattle.aide_fields.specs.Values.{link_of}
use Rattle.aide_fields.proofs.value.read_link.Goals as goal

pub returns-then-eq : goal.returns-then-eq
unfolding link_of percent_decode
returns-then-eq c = search rules
