use Rattle.aide_fields.proofs.BlankLemmas.{blank_of_either, either_of_blank, bit_within}
use Rattle.aide_fields.proofs.blanks.blanks_of_both.Goals as goal

pub returns-clause-each : goal.returns-clause-each
returns-clause-each c = λ k lt. (
  blank_of_either c.args.line.now c.args.at c.args.later c.blanks_at-2.result c.blanks_at.result c.bits_shifted-behind.result
      c.bits_either.result c.requires.order
      c.blanks_at-2.ensures.each c.blanks_at-2.ensures.within c.blanks_at.ensures.each c.blanks_at.ensures.within
      c.bits_shifted-behind.ensures.each c.bits_shifted-behind.ensures.gone c.bits_either.ensures k,
  either_of_blank c.args.line.now c.args.at c.args.later c.blanks_at-2.result c.blanks_at.result c.bits_shifted-behind.result
      c.bits_either.result c.requires.order c.requires.near
      c.blanks_at-2.ensures.each c.blanks_at.ensures.each c.bits_shifted-behind.ensures.each c.bits_either.ensures k lt,
)

pub returns-clause-within : goal.returns-clause-within
returns-clause-within c = λ k one.
    bit_within c.args.at c.args.later c.blanks_at-2.result c.blanks_at.result c.bits_shifted-behind.result c.bits_either.result
    c.requires.order c.blanks_at-2.ensures.within
    c.blanks_at.ensures.within c.bits_shifted-behind.ensures.each c.bits_shifted-behind.ensures.gone c.bits_either.ensures k one
