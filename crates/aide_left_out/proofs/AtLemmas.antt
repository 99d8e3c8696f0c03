-- Paths at a front.
use Rattle.std.proofs.Common.{◌≡◌, ◌&&◌, ℕ, true, false, List, [], ◌∷◌, length, refl, ap, ◌∙◌, arith, eq-eqb, rules}
use Rattle.std.specs.Prelude.{◌==◌}
use Rattle.std.proofs.lemmas.Bool.{and_left, and_right, ne_eqb}
use Rattle.aide_left_out.specs.Settings.{is_at, is_last}

pub at_nothing : (left path : List ℕ) → length left ≡ 0 → is_at left path ≡ true
at_nothing [] path h = refl
at_nothing (byte ∷ left) path h = absurd (omega arith)

pub at_last : (left more : List ℕ) (byte : ℕ) → left ≡ byte ∷ more → length more ≡ 0 → is_at left [] ≡ (byte == 47)
at_last left [] byte e h = search rules
at_last left (x ∷ more) byte e h = absurd (omega arith)

pub at_longer : (left more rest : List ℕ) (byte next : ℕ) → left ≡ byte ∷ more → more ≡ next ∷ rest → is_at left [] ≡ false
at_longer left more rest byte next e f =
    ap (λ l. is_at l []) e ∙ (ap (λ m. (byte == 47) && is_last m) f ∙ and_right (byte == 47) false refl)

pub at_differs : (left more path rest : List ℕ) (byte next : ℕ) → left ≡ byte ∷ more → path ≡ next ∷ rest
    → (next ≡ byte → ⊥) → is_at left path ≡ false
at_differs left more path rest byte next e f other =
    ap (λ l. is_at l path) e ∙ (ap (is_at (byte ∷ more)) f ∙ and_left (next == byte) (is_at more rest) (ne_eqb next byte other))

pub at_more : (left more path rest : List ℕ) (byte next : ℕ) → left ≡ byte ∷ more → path ≡ next ∷ rest
    → next ≡ byte → is_at left path ≡ is_at more rest
at_more left more path rest byte next e f same =
    ap (λ l. is_at l path) e ∙ (ap (is_at (byte ∷ more)) f ∙ ap (λ b. b && is_at more rest) (eq-eqb next byte same))
