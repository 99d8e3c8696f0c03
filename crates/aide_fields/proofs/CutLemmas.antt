-- Paths behind a common front.
use Rattle.std.proofs.Common.{◌≡◌, ℕ, zero, suc, ◌+◌, ◌≤◌, List, [], ◌∷◌, ◌++◌, length, take, drop, map, refl, sym, ap}
use Rattle.std.proofs.Common.{◌∙◌, true, false, cond, Bool, arith, rules}
use Rattle.std.specs.Prelude.{◌==◌, ◌*◌, not}
use Rattle.std.specs.declared.cmp.Ordering.{Ordering}
use Rattle.std.specs.declared.cmp.Ordering.TheVariants.{Equal}
use Rattle.std.specs.Ordering.{nat_cmp, ordering_then}
use Rattle.std.specs.Str.{bytes_eq}
use Rattle.std.specs.Cmp.{nat_cmp_is}
use Rattle.std.specs.Cmp.Lexicographic.{slice_cmp, same_text}
use Rattle.std.proofs.lemmas.List.{map-append, get_or-take, drop-drop, length-drop}
use Rattle.std.proofs.Math.Seq.{take-add}
use Rattle.percent_encoding.specs.Percent.{percent_decode, is_escape}
use Rattle.std.specs.Char.{digit_value}
use Rattle.aide_fields.specs.Path.{path_cmp, rank_of, IsBetweenEscapes}
use Rattle.aide_fields.proofs.PathLemmas.{path_cmp_ranks}

plain_first : (b : ℕ) (r : List ℕ) → (b == 37) ≡ false → percent_decode (b ∷ r) ≡ b ∷ percent_decode r
unfolding percent_decode
plain_first b (h ∷ l ∷ r) e = rw e refl
plain_first b _ e = refl

-- a text is decoded in two parts where no escape reaches over the cut
decode_cut : (n : ℕ) (x : List ℕ) → n ≤ length x → IsBetweenEscapes x n
    → percent_decode x ≡ percent_decode (take n x) ++ percent_decode (drop n x)
unfolding percent_decode
decode_cut zero x le cut = refl
decode_cut (suc n) [] le cut = absurd (omega (arith, le))
decode_cut (suc zero) (b ∷ r) le cut = plain_first b r (cut 0 (omega arith) (omega arith))
decode_cut (suc (suc n)) (b ∷ []) le cut = absurd (omega (arith, le))
decode_cut (suc (suc zero)) (b ∷ h ∷ r) le cut =
    plain_first b (h ∷ r) (cut 0 (omega arith) (omega arith))
    ∙ ap (λ (t : List ℕ). b ∷ t) (plain_first h r (cut 1 (omega arith) (omega arith)))
decode_cut (suc (suc (suc n))) (b ∷ h ∷ []) le cut = absurd (omega (arith, le))
decode_cut (suc (suc (suc n))) (b ∷ h ∷ l ∷ r) le cut =
    let more = decode_cut (suc (suc n)) (h ∷ l ∷ r) (omega (arith, le))
    (λ k lt near. cut (suc k) (omega (arith, lt)) (omega (arith, near))) in
    let rest = decode_cut n r (omega (arith, le)) (λ k lt near. cut (suc (suc (suc k))) (omega (arith, lt)) (omega (arith, near))) in
    elim (is_escape b h l) as (λ t. cond t ((16 * digit_value h + digit_value l) ∷ percent_decode r) (b ∷ percent_decode (h ∷ l ∷ r))
    ≡ cond t ((16 * digit_value h + digit_value l) ∷ percent_decode (take n r)) (b ∷ percent_decode (h ∷ l ∷ take n r)) ++ percent_decode
    (drop n r)) [
      | true ↦ ap (λ (t : List ℕ). (16 * digit_value h + digit_value l) ∷ t) rest
      | false ↦ ap (λ (t : List ℕ). b ∷ t) more
    ]

cut_same : (x y : List ℕ) (n : ℕ) → n ≤ length x → n ≤ length y → take n x ≡ take n y → IsBetweenEscapes x n → IsBetweenEscapes y n
cut_same x y n left right same cut k lt near = search (rules, get_or-take)

behind_front : (p x y : List ℕ) → slice_cmp nat_cmp (p ++ x) (p ++ y) ≡ slice_cmp nat_cmp x y
behind_front [] x y = refl
behind_front (b ∷ p) x y =
    ap (λ (o : Ordering). ordering_then o (slice_cmp nat_cmp (p ++ x) (p ++ y))) (sym (nat_cmp_is b b Equal refl)) ∙ behind_front p x y

-- the order of two texts is that of what is left of them behind a common front
pub path_behind : (x y : List ℕ) (n : ℕ) (found : Ordering) → n ≤ length x → n ≤ length y → take n x ≡ take n y
    → IsBetweenEscapes x n
    → found ≡ slice_cmp nat_cmp (map rank_of (percent_decode (drop n x))) (map rank_of (percent_decode (drop n y)))
    → found ≡ path_cmp (percent_decode x) (percent_decode y)
path_behind x y n found left right same cut is =
    let there : IsBetweenEscapes y n = cut_same x y n left right same cut in
    let front = map rank_of (percent_decode (take n x)) in
    let one : map rank_of (percent_decode x) ≡ front ++ map rank_of (percent_decode (drop n x)) =
    ap (map rank_of) (decode_cut n x left cut) ∙ map-append rank_of (percent_decode (take n x)) (percent_decode (drop n x)) in
    let two : map rank_of (percent_decode y) ≡ front ++ map rank_of (percent_decode (drop n y)) =
    ap (map rank_of) (decode_cut n y right there ∙ ap (λ (t : List ℕ). percent_decode t ++ percent_decode (drop n y)) (sym same))
    ∙ map-append rank_of (percent_decode (take n x)) (percent_decode (drop n y)) in
    is ∙ sym (path_cmp_ranks (percent_decode x) (percent_decode y)
    ∙ (ap (λ (t : List ℕ). slice_cmp nat_cmp t (map rank_of (percent_decode y))) one
    ∙ (ap (slice_cmp nat_cmp (front ++ map rank_of (percent_decode (drop n x)))) two
    ∙ behind_front front (map rank_of (percent_decode (drop n x))) (map rank_of (percent_decode (drop n y))))))

-- so many bytes more that are the same
pub record HasFront (x y left right : List ℕ) (count : ℕ) : Type 0 where
  pub left_at : left ≡ drop count x
  pub right_at : right ≡ drop count y
  pub left_in : count ≤ length x
  pub right_in : count ≤ length y
  pub same : take count x ≡ take count y

pub front_more : (x y left right more_left more_right : List ℕ) (count n : ℕ) → HasFront x y left right count
    → more_left ≡ drop n left → more_right ≡ drop n right → n ≤ length left → n ≤ length right
    → take n left ≡ take n right
    → HasFront x y more_left more_right (count + n)
front_more x y left right more_left more_right count n h a b le lf e = search (rules, drop-drop, length-drop, take-add)

pub byte_more : (x y left right more_left more_right : List ℕ) (count a b : ℕ) → HasFront x y left right count
    → left ≡ a ∷ more_left → right ≡ b ∷ more_right → a ≡ b → HasFront x y more_left more_right (count + 1)
byte_more x y left right more_left more_right count a b h l r e =
    front_more x y left right more_left more_right count 1 h (sym (ap (drop 1) l)) (sym (ap (drop 1) r)) (omega (arith, ap length l))
    (omega (arith, ap length r)) (ap (take 1) l ∙ (ap (λ (k : ℕ). k ∷ []) e ∙ sym (ap (take 1) r)))

by : (t : Bool) → false ≡ not t → t ≡ true
by true e = refl
by false e = cc

pub same_word : (a b : List ℕ) → false ≡ not (bytes_eq a b) → a ≡ b
same_word a b e = same_text a b (sym (by (bytes_eq a b) e))
