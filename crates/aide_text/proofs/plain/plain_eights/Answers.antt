use Rattle.std.proofs.Common.{rules, ◌≡◌, ◌+◌, ◌-◌, ℕ, length, drop, ap, sym, subst, ◌∙◌, arith}
use Rattle.std.specs.List.{list_all}
use Rattle.std.proofs.lemmas.List.{drop-drop}
use Rattle.aide_text.specs.code.Plain.{is_plain, IsPlainUpTo}
use Rattle.aide_text.proofs.PlainLemmas.{plain_front, plain_then}
use Rattle.aide_text.proofs.plain.plain_eights.Goals as goal

pub eights-init : goal.eights-init
eights-init c = search rules

pub eights-preserved : goal.eights-preserved
eights-preserved c =
    let text = c.args.text.now in
    let rest = c.eights.rest.now in
    let more = c.in-Some.more.now in
    let parts = c.in-Some.ensures.cases in
    let eight = ap (list_all is_plain) (sym parts.0) ∙ sym c.are_eight_plain.ensures ∙ c.if-not-are_eight_plain.false in
    let position : length text - length rest + 8 ≡ length text - length more = omega (arith, parts.2, c.eights.invariant.fits) in
    record {
      fits = omega (arith, parts.2, c.eights.invariant.fits);
      behind = parts.1 ∙ ap (drop 8) c.eights.invariant.behind ∙ drop-drop 8 (length text - length rest) text
          ∙ ap (λ (n : ℕ). drop n text) (omega (arith, position));
      plain = subst (λ n. IsPlainUpTo text n) position
          (plain_then text rest (length text - length rest) 8 c.eights.invariant.behind c.eights.invariant.plain
          (plain_front 8 rest eight));
    }
