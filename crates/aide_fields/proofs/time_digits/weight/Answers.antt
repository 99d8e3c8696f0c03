use Rattle.std.proofs.Common.{arith}
use Rattle.aide_fields.proofs.DigitWeights.{light_at}
use Rattle.aide_fields.proofs.time_digits.weight.Goals as goal

pub returns-clause-light : goal.returns-clause-light
returns-clause-light c =
    light_at c.args.weights.now c.requires c.args.symbol (omega (arith, c.ranges.symbol.fits))
