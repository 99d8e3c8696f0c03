use Rattle.std.proofs.Common.{◌≡◌, ◌+◌, ◌-◌, ℕ, length, drop, ap, sym, ◌∙◌, arith, rules}
use Rattle.std.specs.List.{list_all}
use Rattle.std.proofs.lemmas.List.{drop-drop}
use Rattle.aide_fields.specs.Numbers.{is_digit}
use Rattle.aide_fields.proofs.NumberLemmas.{digits_behind, digits_from}
use Rattle.aide_fields.proofs.number.all_digits.Goals as goal

pub fours-preserved : goal.fours-preserved
fours-preserved c =
    let bytes = c.args.bytes.now in
    let rest = c.fours.rest.now in
    let more = c.in-Some-split_first_chunk.more.now in
    let parts = c.in-Some-split_first_chunk.ensures.cases in
    let four = ap (λ xs. list_all (is_digit c.args.base) xs) (sym parts.0) ∙ sym c.are_four_digits.ensures
    ∙ c.if-not-are_four_digits.false in
    let position : length bytes - length rest + 4 ≡ length bytes - length more = omega (arith, parts.2, c.fours.invariant.fits) in
    record {
      digits = c.fours.invariant.digits ∙ digits_behind c.args.base rest four ∙ ap (λ xs. list_all (is_digit c.args.base) xs) (sym parts.1);
      fits = omega (arith, parts.2, c.fours.invariant.fits);
      behind = parts.1 ∙ ap (λ xs. drop 4 xs) c.fours.invariant.behind ∙ drop-drop 4 (length bytes - length rest) bytes
          ∙ ap (λ (n : ℕ). drop n bytes) position;
    }

pub returns-else-is_empty : goal.returns-else-is_empty
returns-else-is_empty c = search (rules, digits_from)
