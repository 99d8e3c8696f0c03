use Rattle.std.proofs.Common.{◌≡◌, sym, arith, length, ◌^◌, rules}
use Rattle.std.proofs.lemmas.Grind.{common_steps}
use Rattle.aide_fields.proofs.NumberLemmas.{natural_empty, natural_stops, natural_over, natural_goes, natural_ends, digits_after}
use Rattle.aide_fields.specs.Numbers.{natural_of}
use Rattle.aide_fields.proofs.number.read_natural.Goals as goal

pub returns-then-is_empty : goal.returns-then-is_empty
unfolding natural_of
returns-then-is_empty c = sym (natural_empty 10 (2 ^ 64) c.args.digits.now (grind (arith, common_steps)))

pub returns-then-not-is_digit : goal.returns-then-not-is_digit
unfolding natural_of
returns-then-not-is_digit c = search (rules, natural_stops)

pub returns-then-is_over : goal.returns-then-is_over
unfolding natural_of
returns-then-is_over c =
    sym (natural_over 10 (2 ^ 64) (omega arith) c.args.digits.now c.digits.rest.now c.in-Some.more.now c.digits.value c.in-Some.byte.now
    c.in-Some.ensures.cases.0 c.digits.invariant.number
    (omega (arith, c.is_over.ensures.over c.if-is_over.true, c.from-digit.ensures)))

pub digits-preserved : goal.digits-preserved
digits-preserved c = search (rules, digits_after, natural_goes)

pub returns : goal.returns
unfolding natural_of
returns c =
    sym (natural_ends 10 (2 ^ 64) c.args.digits.now c.digits.rest.now c.digits.value
    (let h : length c.digits.rest.now ≡ 0 = c.in_default.ensures.cases in grind (arith, common_steps)) c.digits.invariant.filled
    c.digits.invariant.digits c.digits.invariant.number (omega (arith, c.digits.auto.value-fits)))
