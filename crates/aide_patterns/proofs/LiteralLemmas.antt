-- A text without wildcards matches itself, and nothing else.
use Rattle.std.proofs.Common.{◌≡◌, ℕ, Bool, true, false, List, [], ◌∷◌, refl, ap, sym, ◌∙◌, eq-eqb, rules}
use Rattle.std.specs.Prelude.{◌==◌}
use Rattle.std.specs.List.{list_all}
use Rattle.std.proofs.lemmas.Bool.{and_parts, and_from, eqb-true}
use Rattle.aide_patterns.specs.Path.{is_double_star}
use Rattle.aide_patterns.specs.Pieces.{head_until}
use Rattle.aide_patterns.specs.code.Fronts.{is_plain}
use Rattle.aide_patterns.proofs.FrontLemmas.{head_other, head_slash, no_double_star, one_part, others_other, others_slash, parts_plain}
use Rattle.aide_patterns.proofs.FrontLemmas.{plain, step_plain, step_slash, within}

-- the component that such a text begins with is not `**`
pub first_no_star : (text : List ℕ) → list_all is_plain text ≡ true → is_double_star (head_until 47 text) ≡ false
first_no_star [] h = refl
first_no_star (byte ∷ text) h = no_double_star byte text (plain byte (and_parts (is_plain byte) (list_all is_plain text) h).0)

-- nothing is left of a path
nothing_left : (path : List ℕ) → within [] path ≡ true → path ≡ []
nothing_left [] h = refl
nothing_left (d ∷ path) h = search rules

-- what such a text matches behind a slash is itself
pub within_is : (text path : List ℕ) → list_all is_plain text ≡ true → within text path ≡ true → path ≡ text
within_is [] path h m = nothing_left path m
within_is (byte ∷ text) path h m = go (byte == 47) refl (λ left k. within_is text left both.1 k)
  where
    both : (is_plain byte ≡ true) × (list_all is_plain text ≡ true)
    both = and_parts (is_plain byte) (list_all is_plain text) h

    go : (b : Bool) → (byte == 47) ≡ b → ((left : List ℕ) → within text left ≡ true → left ≡ text) → path ≡ byte ∷ text
    go true at again =
        let is : byte ≡ 47 = eqb-true byte 47 at in
        let k = step_slash text path (first_no_star text both.1) (ap (λ x. within (x ∷ text) path) (sym is) ∙ m) in
        k.is ∙ (ap (λ t. 47 ∷ t) (again k.left k.matches) ∙ ap (λ x. x ∷ text) (sym is))
    go false at again =
        let k = step_plain byte text path (plain byte both.0) at m in
        k.is ∙ ap (λ t. byte ∷ t) (again k.left k.matches)

-- such a text matches itself behind a slash
pub within_itself : (text : List ℕ) → list_all is_plain text ≡ true → within text text ≡ true
within_itself [] h = refl
within_itself (byte ∷ text) h =
    search (
      rules,
      within_itself text,
      and_parts,
      within,
      and_from,
      head_slash,
      others_slash,
      one_part,
      first_no_star,
      parts_plain,
      plain,
      head_other,
      eq-eqb,
      others_other,
    )
