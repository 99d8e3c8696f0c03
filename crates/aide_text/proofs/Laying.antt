-- Texts that are laid into the columns of a line.
use Rattle.std.proofs.Common.{rules, ◌≡◌, ◌∙◌, ℕ, ◌+◌, ◌-◌, ◌≤◌, List, [], ◌∷◌, ◌++◌, length, take, drop, replicate, sym, ap}
use Rattle.std.proofs.Common.{arith, append_assoc, length-append, length-drop, refl}
use Rattle.std.proofs.lemmas.List.{take_at, drop_at, drop-append-le, drop-replicate, length-replicate, take_more_set}
use Rattle.std.proofs.lemmas.List.{take-append-drop, length-take-le}
use Rattle.std.proofs.lemmas.Slice.{take-put_mid, between_is}
use Rattle.std.specs.Prelude.{slice_set}
use borrow.Rule.Slice.PartMut.{put_mid}
use Rattle.aide_text.specs.Layout.{padded, heading, margin, indent, colon_blank, left_part, bar, pair_body, pair_line, ended}
use Rattle.aide_text.specs.code.Columns.{blank_pair}

length-put_mid : (a k : ℕ) (line text : List ℕ) → k ≡ length text → a + k ≤ length line
    → length (put_mid a k line text) ≡ length line
length-put_mid a k line text size fits = search (rules, length-append, length-drop, length-take-le)

length-padded : (n : ℕ) (text : List ℕ) → length text ≤ n → length (padded n text) ≡ n
unfolding padded
length-padded n text fits =
    omega (arith, length-append text (replicate (n - length text) 32), length-replicate {A = ℕ} (n - length text) 32, fits)

-- a text in a column of blanks is padded with those that are left
pub column : (a k n : ℕ) (front text rest line : List ℕ) → length front ≡ a → k ≡ length text → length text ≤ n
    → line ≡ front ++ (replicate n 32 ++ rest)
    → put_mid a k line text ≡ front ++ (padded n text ++ rest)
unfolding padded
column a k n front text rest line at size fits is =
    search (rules, replicate, take_at, drop_at, drop-append-le, length-replicate, drop-replicate, append_assoc)

-- a name and its colon in the margin
pub named : (k : ℕ) (line name : List ℕ) → k ≡ length name → length name ≤ 10 → line ≡ margin ++ blank_pair
    → put_mid 2 k (slice_set line 12 58) name ≡ heading name ++ blank_pair
unfolding margin indent colon_blank heading
named k line name size fits is =
    column 2 k 10 indent name (colon_blank ++ blank_pair) (slice_set line 12 58) refl size fits (ap (λ l. slice_set l 12 58) is)
    ∙ ap (λ x. indent ++ x) (sym (append_assoc (padded 10 name) colon_blank blank_pair))
    ∙ sym (append_assoc indent (padded 10 name ++ colon_blank) blank_pair)

-- a piece of each text in its column, and the end of the line
module _ (j k : ℕ) (line a b : List ℕ) (size_a : j ≡ length a) (size_b : k ≡ length b) (fits_a : length a ≤ 32) (fits_b : length b ≤ 32)
    (size : length line ≡ 82) (blank : drop 14 line ≡ blank_pair) where
  first : put_mid 14 j line a ≡ take 14 line ++ (padded 32 a ++ (bar ++ replicate 33 32))
  unfolding bar
  first = column 14 j 32 (take 14 line) a (bar ++ replicate 33 32) line (length-take-le 14 line (omega (arith, size))) size_a fits_a
      (sym (take-append-drop 14 line) ∙ ap (λ r. take 14 line ++ r) blank)

  front : take 49 (put_mid 14 j line a) ≡ take 14 line ++ left_part a
  unfolding left_part bar
  front = ap (take 49) (first ∙ ap (λ r. take 14 line ++ r) (sym (append_assoc (padded 32 a) bar (replicate 33 32)))
      ∙ sym (append_assoc (take 14 line) (padded 32 a ++ bar) (replicate 33 32)))
      ∙ take_at (take 14 line ++ (padded 32 a ++ bar)) (replicate 33 32) 49
      (omega (
        arith,
        length-append (take 14 line) (padded 32 a ++ bar),
        length-append (padded 32 a) bar,
        length-padded 32 a fits_a,
        length-take-le 14 line (omega (arith, size)),
      ))

  pub paired : take (50 + length b) (slice_set (put_mid 49 k (put_mid 14 j line a) b) (49 + length b) 10) ≡ pair_line (take 14 line) a b
  unfolding pair_line pair_body ended
  paired =
      let long : length (put_mid 14 j line a) ≡ 82 = length-put_mid 14 j line a size_a (omega (arith, size, size_a, fits_a)) ∙ size in
      let whole : length (put_mid 49 k (put_mid 14 j line a) b) ≡ 82 =
      length-put_mid 49 k (put_mid 14 j line a) b size_b (omega (arith, long, size_b, fits_b)) ∙ long in
      ap (λ n. take n (slice_set (put_mid 49 k (put_mid 14 j line a) b) (49 + length b) 10)) (omega arith)
      ∙ take_more_set (put_mid 49 k (put_mid 14 j line a) b) (49 + length b) 10 (omega (arith, whole, fits_b))
      ∙ ap (λ l. l ++ 10 ∷ []) (take-put_mid 49 k (put_mid 14 j line a) b (49 + length b) refl (omega (arith, long))
      ∙ ap (λ l. l ++ b) front)
      ∙ append_assoc (take 14 line ++ left_part a) b (10 ∷ [])
      ∙ append_assoc (take 14 line) (left_part a) (b ++ 10 ∷ [])

-- ---- the parts of a line

pub length-heading : (name : List ℕ) → length name ≤ 10 → length (heading name) ≡ 14
unfolding indent colon_blank heading
length-heading name fits = search (rules, length-append, length-padded)

pub margin_head : (line : List ℕ) → line ≡ margin ++ blank_pair → take 14 line ≡ margin
unfolding margin
margin_head line is = ap (take 14) is

pub margin_blank : (line : List ℕ) → line ≡ margin ++ blank_pair → drop 14 line ≡ blank_pair
unfolding margin
margin_blank line is = ap (drop 14) is

pub heading_head : (line name : List ℕ) → length name ≤ 10 → line ≡ heading name ++ blank_pair → take 14 line ≡ heading name
heading_head line name fits is = ap (take 14) is ∙ take_at (heading name) blank_pair 14 (length-heading name fits)

pub heading_blank : (line name : List ℕ) → length name ≤ 10 → line ≡ heading name ++ blank_pair → drop 14 line ≡ blank_pair
heading_blank line name fits is = ap (drop 14) is ∙ drop_at (heading name) blank_pair 14 (length-heading name fits)

-- what is left of a line without its margin
pub behind_margin : (len : ℕ) (line a b : List ℕ) → take len line ≡ pair_line margin a b
    → take (len - 14) (drop 14 line) ≡ pair_body a b
unfolding pair_line margin
behind_margin len line a b is = between_is line 14 len ∙ ap (drop 14) is
