-- Cutting a text into pieces, and the lines that they make.
use Rattle.std.proofs.lemmas.Grind.{common_steps}
use Rattle.std.proofs.Common.{◌≡◌, ℕ, zero, suc, ◌+◌, ◌≤◌, ◌<◌, max, List, [], ◌∷◌, ◌++◌, length, take, drop, refl, sym}
use Rattle.std.proofs.Common.{ap, ◌∙◌, arith, length-drop, true, false, Bool, if◌then◌else◌, append_assoc, subst, rules}
use Rattle.std.specs.Prelude.{slice_set, not, ◌==◌}
use Rattle.std.proofs.lemmas.List.{append-nil, take-append-drop, take_more_set, take_all, drop_all, length-take}
use Rattle.std.proofs.Math.Seq.{take-append_seam, drop-append_seam}
use Rattle.aide_text.specs.Layout.{piece_count, pair_line, pair_lines, next_line, has_lines, margin, heading, line_count}
use Rattle.aide_text.specs.Layout.{side_by_side, single_line, single_lines, alone}

-- one more byte of the text stands in the buffer
pub one_byte : (bytes before after text : List ℕ) (len c : ℕ) → len < length bytes → take len bytes ++ before ≡ text
    → before ≡ c ∷ after
    → take (len + 1) (slice_set bytes len c) ++ after ≡ text
one_byte bytes before after text len c h whole is = search (rules, take_more_set, append_assoc)

-- the buffer is full
pub cut_full : (piece rest text : List ℕ) → piece ++ rest ≡ text → length piece ≡ 32
    → (piece ≡ take 32 text) × (rest ≡ drop 32 text)
cut_full piece rest text whole full = (
  sym (ap (take 32) (sym whole) ∙ ap (λ n. take n (piece ++ rest)) (sym full) ∙ take-append_seam piece rest),
  sym (ap (drop 32) (sym whole) ∙ ap (λ n. drop n (piece ++ rest)) (sym full) ∙ drop-append_seam piece rest),
)

-- the text has ended
pub cut_short : (piece rest text : List ℕ) → piece ++ rest ≡ text → rest ≡ [] → length piece ≤ 32
    → (piece ≡ take 32 text) × (rest ≡ drop 32 text)
cut_short piece rest text whole none short =
    let is : piece ≡ text = sym (append-nil piece) ∙ ap (λ ds. piece ++ ds) (sym none) ∙ whole in
    let fits : length text ≤ 32 = subst (λ t. length t ≤ 32) is short in (
      is ∙ sym (take_all 32 text fits),
      none ∙ sym (drop_all 32 text fits),
    )

pub no_length : (xs : List ℕ) → length xs ≡ 0 → xs ≡ []
no_length [] e = refl
no_length (x ∷ xs) e = absurd (omega (arith, e))

-- a piece is the front of a text: what is left behind it, and none left where it is empty
module _ (text piece rest : List ℕ) (is : piece ≡ take 32 text) where
  pub piece_more : rest ≡ drop 32 text → text ≡ piece ++ rest
  piece_more left = sym (ap (λ p. p ++ rest) is ∙ ap (λ r. take 32 text ++ r) left ∙ take-append-drop 32 text)

  pub piece_shorter : rest ≡ drop 32 text → (length piece ≡ 0 → ⊥) → length rest < length text
  piece_shorter left some =
      omega (arith, ap (λ (l : List ℕ). length l) left, length-drop 32 text, ap (λ (l : List ℕ). length l) is, length-take 32 text, some)

  pub piece_none : length piece ≡ 0 → text ≡ []
  piece_none none = no_length text (omega (arith, ap (λ (l : List ℕ). length l) is, length-take 32 text, none))

-- ---- lines

-- the lines after the first
abbrev pub later_lines : List ℕ → List ℕ → List ℕ
later_lines a b = pair_lines margin (max (piece_count a) (piece_count b)) a b

pub lines_none : (a b : List ℕ) → a ≡ [] → b ≡ [] → later_lines a b ≡ []
unfolding pair_lines
lines_none a b none_a none_b = ap (λ x. later_lines x b) none_a ∙ ap (λ y. later_lines [] y) none_b

-- The count of lines falls by one with each piece.
pub count_falls : (a b : List ℕ) → 0 < length a + length b
    → max (piece_count a) (piece_count b) ≡ suc (max (piece_count (drop 32 a)) (piece_count (drop 32 b)))
count_falls a b some = omega (arith, length-drop 32 a, length-drop 32 b)

pub lines_some : (a b : List ℕ) → 0 < length a + length b
    → later_lines a b ≡ pair_line margin (take 32 a) (take 32 b) ++ later_lines (drop 32 a) (drop 32 b)
unfolding pair_lines
lines_some a b some = ap (λ n. pair_lines margin n a b) (count_falls a b some)

-- at least one line, and the later ones
pub first_count : (a b : List ℕ) → line_count a b ≡ suc (max (piece_count (drop 32 a)) (piece_count (drop 32 b)))
first_count a b = omega (arith, length-drop 32 a, length-drop 32 b)

pub first_line : (name a b : List ℕ)
    → side_by_side name a b ≡ pair_line (heading name) (take 32 a) (take 32 b) ++ later_lines (drop 32 a) (drop 32 b)
unfolding pair_lines
first_line name a b = ap (λ n. pair_lines (heading name) n a b) (first_count a b)

pub some_lines : (a b : List ℕ) → has_lines a b ≡ true
    → later_lines a b ≡ pair_line margin (take 32 a) (take 32 b) ++ later_lines (drop 32 a) (drop 32 b)
some_lines a b e = lines_some a b (grind (arith, e))

pub no_lines : (a b : List ℕ) → has_lines a b ≡ false → later_lines a b ≡ []
no_lines a b e = lines_none a b (no_length a (grind (arith, e))) (no_length b (grind (arith, e)))

pub next_and_later : (a b : List ℕ) → later_lines a b ≡ next_line a b ++ later_lines (drop 32 a) (drop 32 b)
unfolding next_line
next_and_later a b = grind (arith, common_steps, some_lines, no_lines, lines_none, drop_all)

pub lines_ended : (a b : List ℕ) → has_lines a b ≡ false → later_lines (drop 32 a) (drop 32 b) ≡ []
lines_ended a b e =
    lines_none (drop 32 a) (drop 32 b) (drop_all 32 a (grind (arith, e))) (drop_all 32 b (grind (arith, e)))

pub short_piece : (text piece : List ℕ) → piece ≡ take 32 text → length piece ≤ 32
short_piece text piece is = omega (arith, ap (λ (l : List ℕ). length l) is, length-take 32 text)

-- while there are lines, the texts get shorter
pub lines_fall : (a b : List ℕ) → has_lines a b ≡ true → length (drop 32 a) + length (drop 32 b) < length a + length b
lines_fall a b e = grind (arith, e, length-drop 32 a, length-drop 32 b)

-- ---- one text

abbrev pub later_single : List ℕ → List ℕ
later_single a = single_lines margin (piece_count a) a

pub single_none : (a : List ℕ) → a ≡ [] → later_single a ≡ []
unfolding single_lines
single_none a none = ap later_single none

pub single_some : (a : List ℕ) → 0 < length a
    → later_single a ≡ single_line margin (take 32 a) ++ later_single (drop 32 a)
unfolding single_lines
single_some a some = search (rules, count)
  where
    count : piece_count a ≡ suc (piece_count (drop 32 a))
    count = omega (arith, length-drop 32 a)

pub single_first : (name a : List ℕ) → alone name a ≡ single_line (heading name) (take 32 a) ++ later_single (drop 32 a)
unfolding alone single_lines
single_first name a = search (rules, count)
  where
    count : max 1 (piece_count a) ≡ suc (piece_count (drop 32 a))
    count = omega (arith, length-drop 32 a)

-- a text that is not empty gets shorter
pub single_shorter : (a : List ℕ) → 0 < length a → length (drop 32 a) < length a
single_shorter a some = omega (arith, length-drop 32 a)

same_test : (m n : ℕ) → (0 < m → 0 < n) → (0 < n → 0 < m) → not (m == 0) ≡ not (n == 0)
same_test zero zero f g = refl
same_test zero (suc n) f g = absurd (let h : 0 < 0 = g (omega arith) in omega arith)
same_test (suc m) zero f g = absurd (let h : 0 < 0 = f (omega arith) in omega arith)
same_test (suc m) (suc n) f g = grind arith

-- a text has a byte where its first piece has one
pub has_pieces : (a b : List ℕ) → has_lines (take 32 a) (take 32 b) ≡ has_lines a b
has_pieces a b = search (rules, same_test, length-take)

pub next_by : (more : Bool) (a b : List ℕ) → more ≡ has_lines a b
    → (if more then pair_line margin (take 32 a) (take 32 b) else []) ≡ next_line a b
unfolding next_line
next_by more a b e = ap (λ m. if m then pair_line margin (take 32 a) (take 32 b) else []) e
