use Rattle.std.proofs.Common.{◌-◌, arith}
use Rattle.std.proofs.lemmas.Nat.{and_le_r}
use Rattle.std.proofs.lemmas.Nat.Bits.{bit_at_and}
use Rattle.aide_fields.proofs.BlankLemmas.{bit_at_pred_above, bit_at_pred_lowest}
use Rattle.aide_fields.proofs.blanks.without_lowest.Goals as goal

pub returns-clause-smaller : goal.returns-clause-smaller
returns-clause-smaller c = omega (arith, and_le_r c.args.bits (c.args.bits - 1), c.requires)

pub returns-clause-kept : goal.returns-clause-kept
returns-clause-kept c low k set above =
    omega (arith, bit_at_and c.args.bits (c.args.bits - 1) k, bit_at_pred_above k low c.args.bits set above)

pub returns-clause-fewer : goal.returns-clause-fewer
returns-clause-fewer c k h = omega (arith, bit_at_and c.args.bits (c.args.bits - 1) k, h)

pub returns-clause-gone : goal.returns-clause-gone
returns-clause-gone c low set below =
    omega (arith, bit_at_and c.args.bits (c.args.bits - 1) low, bit_at_pred_lowest low c.args.bits set below)
