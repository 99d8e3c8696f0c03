use Rattle.std.proofs.lemmas.Nat.Bits.{bit_at_or}
use Rattle.aide_fields.proofs.blanks.bits_either.Goals as goal

pub returns : goal.returns
returns c = bit_at_or c.args.a c.args.b
