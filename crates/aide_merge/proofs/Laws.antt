-- The list of changes in the words of the maps: which keys were added, removed, are common, are changed, and how many.
use Rattle.std.specs.Prelude.{◌&&◌, not, T, map, filter, Some, None, is_some, count_by}
use Rattle.std.proofs.Common.{refl, sym, ap, ◌∙◌, ◌≡◌, ◌+◌, Bool, true, false, cond, List, [], ◌∷◌, arith, length}
use Rattle.std.specs.declared.option.Option.{Option}
use Rattle.std.specs.declared.cmp.Ordering.{Ordering}
use Rattle.std.specs.declared.cmp.Ordering.TheVariants.{Less, Equal, Greater}
use Rattle.std.specs.Ordering.{is_eq, is_lt, eq_by_cmp, ordering_reverse}
use Rattle.std.specs.Cmp.{IsTotalOrder, tied_itself}
use Rattle.std.specs.FinMap.{FinMap, IsAntisymmetric, entries, keys, get, contains_key, len, entries_sorted, get-entries, len-entries}
use Rattle.std.specs.FinMap.Entries.{find, is_sorted, below_all, same_entries}
use Rattle.std.proofs.lemmas.List.{length-map}
use Rattle.std.proofs.lemmas.List.Sums.{length-filter, sum_by-append}
use Rattle.aide_merge.specs.Compare.{Change, Found, compared, changes, added, removed, common, changed, differ_at}
use Rattle.aide_merge.specs.Changes.{is_added, is_removed, is_changed, is_of_new}
use Rattle.aide_merge.specs.Merged.{weave, merged}
use Rattle.aide_merge.proofs.MergeLemmas.{paired, and_first, and_second, and_intro, lt_less, get-compared, changes-merged}

abbrev AllIn : {X : Type 0} → (X → Type 0) → List X → Type 0
AllIn P [] = Unit {0}
AllIn P (x ∷ xs) = P x × AllIn P xs

all_map : {X : Type 0} (P Q : X → Type 0) → ((x : X) → P x → Q x) → (xs : List X) → AllIn P xs → AllIn Q xs
all_map P Q f [] h = tt
all_map P Q f (x ∷ xs) h = (f x h.0, all_map P Q f xs h.1)

-- ---- each entry of a list in order is found at its key

greater_of : {K : Type 0} (R : K → K → Ordering) → IsTotalOrder R → (x y : K) → T (is_lt (R x y)) → R y x ≡ Greater
greater_of R o x y h = o.antisymm y x ∙ ap ordering_reverse (lt_less _ h)

found_past : {K X : Type 0} (R : K → K → Ordering) → IsTotalOrder R → (z : K × X) (es fs : List (K × X))
    → T (below_all R z.0 fs)
    → AllIn (λ c. find R c.0 es ≡ Some c.1) fs → AllIn (λ c. find R c.0 (z ∷ es) ≡ Some c.1) fs
found_past R o z es [] h p = tt
found_past R o z es (c ∷ fs) h p = (
  ap (λ r. cond (is_eq r) (Some z.1) (find R c.0 es)) (greater_of R o z.0 c.0 (and_first _ _ h))
      ∙ p.0,
  found_past R o z es fs (and_second _ _ h) p.1,
)

all_found : {K X : Type 0} (R : K → K → Ordering) → IsTotalOrder R → (es : List (K × X)) → T (is_sorted R es)
    → AllIn (λ c. find R c.0 es ≡ Some c.1) es
all_found R o [] h = tt
all_found R o (e ∷ es) h = (
  ap (λ r. cond (is_eq r) (Some e.1) (find R e.0 es)) (tied_itself o e.0),
  found_past R o e es es (and_first _ _ h)
      (all_found R o es (and_second _ _ h)),
)

found_of : {X : Type 0} (a b : Option X) (s : Found X) → paired a b ≡ Some s → s ≡ (a, b)
found_of None None s e = cc
found_of None (Some y) s e = cc
found_of (Some x) b s e = cc

abbrev pub keys_by : {K X : Type 0} → (Change K X → Bool) → List (Change K X) → List K
keys_by p cs = map (λ c. c.0) (filter p cs)

abbrev keys_in : {K X : Type 0} → List (K × X) → List K
keys_in es = map (λ e. e.0) es

-- ---- further tests of one change

module _ {K X : Type 0} where
  -- both maps have the key
  abbrev pub is_common : Change K X → Bool
  is_common (k, (Some old, Some new)) = true
  is_common _ = false

  -- the old map has the key
  abbrev pub is_of_old : Change K X → Bool
  is_of_old (k, (old, new)) = is_some old

  -- the same change, with the two maps exchanged
  abbrev pub flipped : Change K X → Change K X
  flipped (k, (old, new)) = (k, (new, old))

-- ---- a list of changes by one test, and by a further test of the key

-- a test that holds just where two others do
refined : {K X : Type 0} (p q : Change K X → Bool) (k : K → Bool) (cs : List (Change K X))
    → AllIn (λ c. p c ≡ q c && k c.0) cs → keys_by p cs ≡ filter k (keys_by q cs)
refined p q k [] h = refl
refined p q k (c ∷ cs) h =
    let ih = refined p q k cs h.1 in
    ap (λ b. map (λ d. d.0) (cond b (c ∷ filter p cs) (filter p cs))) h.0
    ∙ elim (q c) as (λ b. map (λ d. d.0) (cond (b && k c.0) (c ∷ filter p cs) (filter p cs))
    ≡ filter k (map (λ d. d.0) (cond b (c ∷ filter q cs) (filter q cs)))) [
      | true ↦ elim (k c.0) as (λ b. map (λ d. d.0) (cond b (c ∷ filter p cs) (filter p cs))
          ≡ cond b (c.0 ∷ filter k (keys_by q cs)) (filter k (keys_by q cs))) [
            | true ↦ ap (λ ps. c.0 ∷ ps) ih
            | false ↦ ih
          ]
      | false ↦ ih
    ]

counted_by : {K X : Type 0} (p : Change K X → Bool) (cs : List (Change K X)) (ks : List K) → keys_by p cs ≡ ks
    → count_by p cs ≡ length ks
counted_by p cs ks e = sym (length-filter p cs) ∙ sym (length-map (filter p cs) (λ c. c.0)) ∙ ap length e

added_test : {K X : Type 0} (k : K) (a b : Option X) → is_added (k, (a, b)) ≡ is_of_new (k, (a, b)) && not (is_some a)
added_test k None None = refl
added_test k None (Some y) = refl
added_test k (Some x) None = refl
added_test k (Some x) (Some y) = refl

removed_test : {K X : Type 0} (k : K) (a b : Option X)
    → is_removed (k, (a, b)) ≡ is_of_old (k, (a, b)) && not (is_some b)
removed_test k None None = refl
removed_test k None (Some y) = refl
removed_test k (Some x) None = refl
removed_test k (Some x) (Some y) = refl

common_test : {K X : Type 0} (k : K) (a b : Option X) → is_common (k, (a, b)) ≡ is_of_old (k, (a, b)) && is_some b
common_test k None None = refl
common_test k None (Some y) = refl
common_test k (Some x) None = refl
common_test k (Some x) (Some y) = refl

changed_test : {K X : Type 0} (differ : X → X → Bool) (k : K) (a b : Option X)
    → is_changed differ (k, (a, b)) ≡ is_common (k, (a, b)) && differ_at differ a b
changed_test differ k None None = refl
changed_test differ k None (Some y) = refl
changed_test differ k (Some x) None = refl
changed_test differ k (Some x) (Some y) = refl

-- ---- the keys of the changes that are of the new side, and of the old one

module _ {K X : Type 0} (R : K → K → Ordering) where
  new_right : (ys : List (K × X)) → keys_by is_of_new (merged R [] ys) ≡ keys_in ys
  new_right [] = refl
  new_right (y ∷ ys) = ap (λ ps. y.0 ∷ ps) (new_right ys)

  new_weave : IsAntisymmetric R → (x : K × X) (xs : List (K × X))
      → ((ys : List (K × X)) → keys_by is_of_new (merged R xs ys) ≡ keys_in ys)
      → (ys : List (K × X)) → keys_by is_of_new (weave R x (merged R xs) ys) ≡ keys_in ys
  new_weave one x xs rest [] = rest []
  new_weave one x xs rest (y ∷ ys) =
      elim (R x.0 y.0) as (λ r. R x.0 y.0 ≡ r → keys_by is_of_new (elim r [
        | Less ↦ (x.0, (Some x.1, None)) ∷ merged R xs (y ∷ ys)
        | Equal ↦ (x.0, (Some x.1, Some y.1)) ∷ merged R xs ys
        | Greater ↦ (y.0, (None, Some y.1)) ∷ weave R x (merged R xs) ys
      ]) ≡ y.0 ∷ keys_in ys) [
        | Less ↦ λ p. rest (y ∷ ys)
        | Equal ↦ λ p i. one x.0 y.0 p i ∷ rest ys i
        | Greater ↦ λ p. ap (λ ps. y.0 ∷ ps) (new_weave one x xs rest ys)
      ] refl

  new_keys : IsAntisymmetric R → (xs ys : List (K × X)) → keys_by is_of_new (merged R xs ys) ≡ keys_in ys
  new_keys one [] ys = new_right ys
  new_keys one (x ∷ xs) ys = new_weave one x xs (new_keys one xs) ys

  old_right : (ys : List (K × X)) → keys_by is_of_old (merged R [] ys) ≡ []
  old_right [] = refl
  old_right (y ∷ ys) = old_right ys

  old_weave : (x : K × X) (xs : List (K × X)) → ((ys : List (K × X)) → keys_by is_of_old (merged R xs ys) ≡ keys_in xs)
      → (ys : List (K × X)) → keys_by is_of_old (weave R x (merged R xs) ys) ≡ x.0 ∷ keys_in xs
  old_weave x xs rest [] = ap (λ ps. x.0 ∷ ps) (rest [])
  old_weave x xs rest (y ∷ ys) =
      elim (R x.0 y.0) as (λ r. keys_by is_of_old (elim r [
        | Less ↦ (x.0, (Some x.1, None)) ∷ merged R xs (y ∷ ys)
        | Equal ↦ (x.0, (Some x.1, Some y.1)) ∷ merged R xs ys
        | Greater ↦ (y.0, (None, Some y.1)) ∷ weave R x (merged R xs) ys
      ]) ≡ x.0 ∷ keys_in xs) [
        | Less ↦ ap (λ ps. x.0 ∷ ps) (rest (y ∷ ys))
        | Equal ↦ ap (λ ps. x.0 ∷ ps) (rest ys)
        | Greater ↦ old_weave x xs rest ys
      ]

  old_keys : (xs ys : List (K × X)) → keys_by is_of_old (merged R xs ys) ≡ keys_in xs
  old_keys [] ys = old_right ys
  old_keys (x ∷ xs) ys = old_weave x xs (old_keys xs) ys

-- ---- the laws, over any two maps of a total order in which only equal keys tie

module _ {K X : Type 0} (R : K → K → Ordering) (o : IsTotalOrder R) where
  abbrev IsTrueOf : FinMap R X → FinMap R X → Change K X → Type 0
  IsTrueOf old new c = c.1 ≡ (get old c.0, get new c.0)

  -- each change has what both maps have at its key
  all_true : (old new : FinMap R X) → AllIn (IsTrueOf old new) (changes old new)
  all_true old new =
      all_map (λ c. find R c.0 (changes old new) ≡ Some c.1) (IsTrueOf old new)
      (λ c e. found_of (get old c.0) (get new c.0) c.1 (sym (get-compared R o old new c.0) ∙ get-entries (compared old new) c.0 ∙ e))
      (changes old new) (all_found R o (changes old new) (entries_sorted (compared old new)))

  tested : (old new : FinMap R X) (p q : Change K X → Bool) (k : K → Bool)
      → ((key : K) → p (key, (get old key, get new key)) ≡ q (key, (get old key, get new key)) && k key)
      → keys_by p (changes old new) ≡ filter k (keys_by q (changes old new))
  tested old new p q k f = refined p q k (changes old new)
      (all_map (IsTrueOf old new) (λ c. p c ≡ q c && k c.0)
      (λ c e. ap (λ s. p (c.0, s)) e ∙ f c.0 ∙ ap (λ s. q (c.0, s) && k c.0) (sym e)) (changes old new) (all_true old new))

  of_new_is_keys : IsAntisymmetric R → (old new : FinMap R X) → keys_by is_of_new (changes old new) ≡ keys new
  of_new_is_keys one old new = ap (keys_by is_of_new) (changes-merged R o one old new) ∙ new_keys R one (entries old) (entries new)

  of_old_is_keys : IsAntisymmetric R → (old new : FinMap R X) → keys_by is_of_old (changes old new) ≡ keys old
  of_old_is_keys one old new = ap (keys_by is_of_old) (changes-merged R o one old new) ∙ old_keys R (entries old) (entries new)

  pub added_law : IsAntisymmetric R → (old new : FinMap R X) → keys_by is_added (changes old new) ≡ added old new
  added_law one old new = tested old new is_added is_of_new (λ p. not (contains_key old p)) (λ p. added_test p (get old p) (get new p))
      ∙ ap (filter (λ p. not (contains_key old p))) (of_new_is_keys one old new)

  pub removed_law : IsAntisymmetric R → (old new : FinMap R X) → keys_by is_removed (changes old new) ≡ removed old new
  removed_law one old new = tested old new is_removed is_of_old (λ p. not (contains_key new p))
      (λ p. removed_test p (get old p) (get new p))
      ∙ ap (filter (λ p. not (contains_key new p))) (of_old_is_keys one old new)

  pub common_law : IsAntisymmetric R → (old new : FinMap R X) → keys_by is_common (changes old new) ≡ common old new
  common_law one old new = tested old new is_common is_of_old (contains_key new) (λ p. common_test p (get old p) (get new p))
      ∙ ap (filter (contains_key new)) (of_old_is_keys one old new)

  pub changed_law : (differ : X → X → Bool) → IsAntisymmetric R → (old new : FinMap R X)
      → keys_by (is_changed differ) (changes old new) ≡ changed differ old new
  changed_law differ one old new = tested old new (is_changed differ) is_common (λ p. differ_at differ (get old p) (get new p))
      (λ p. changed_test differ p (get old p) (get new p))
      ∙ ap (filter (λ p. differ_at differ (get old p) (get new p))) (common_law one old new)

  -- ---- how many

  pub added_count : IsAntisymmetric R → (old new : FinMap R X)
      → count_by is_added (changes old new) ≡ length (added old new)
  added_count one old new = counted_by is_added (changes old new) (added old new) (added_law one old new)

  pub removed_count : IsAntisymmetric R → (old new : FinMap R X)
      → count_by is_removed (changes old new) ≡ length (removed old new)
  removed_count one old new = counted_by is_removed (changes old new) (removed old new) (removed_law one old new)

  pub changed_count : (differ : X → X → Bool) → IsAntisymmetric R → (old new : FinMap R X)
      → count_by (is_changed differ) (changes old new) ≡ length (changed differ old new)
  changed_count differ one old new = counted_by (is_changed differ) (changes old new) (changed differ old new)
      (changed_law differ one old new)

  pub total_count : IsAntisymmetric R → (old new : FinMap R X) → count_by is_of_new (changes old new) ≡ len new
  total_count one old new = counted_by is_of_new (changes old new) (keys new) (of_new_is_keys one old new)
      ∙ length-map (entries new) (λ e. e.0) ∙ sym (len-entries new)

-- ---- exchanging the maps

module _ {K X : Type 0} {R : K → K → Ordering} where
  -- what was added is what was removed, the other way round
  pub added-exchanged : (old new : FinMap R X) → added new old ≡ removed old new
  added-exchanged old new = refl

below_flipped : {K X : Type 0} (R : K → K → Ordering) (p : K) (cs : List (Change K X)) → T (below_all R p cs)
    → T (below_all R p (map flipped cs))
below_flipped R p [] h = tt
below_flipped R p (c ∷ cs) h = and_intro _ _ (and_first _ _ h) (below_flipped R p cs (and_second _ _ h))

sorted_flipped : {K X : Type 0} (R : K → K → Ordering) (cs : List (Change K X)) → T (is_sorted R cs)
    → T (is_sorted R (map flipped cs))
sorted_flipped R [] h = tt
sorted_flipped R (c ∷ cs) h =
    and_intro _ _ (below_flipped R c.0 cs (and_first _ _ h)) (sorted_flipped R cs (and_second _ _ h))

abbrev turned_over : {X : Type 0} → Option (Found X) → Option (Found X)
turned_over None = None
turned_over (Some s) = Some (s.1, s.0)

find_flipped : {K X : Type 0} (R : K → K → Ordering) (q : K) (cs : List (Change K X))
    → find R q (map flipped cs) ≡ turned_over (find R q cs)
find_flipped R q [] = refl
find_flipped R q (c ∷ cs) = elim (eq_by_cmp R q c.0) as
    (λ b. cond b (Some (flipped c).1) (find R q (map flipped cs)) ≡ turned_over (cond b (Some c.1) (find R q cs))) [
      | true ↦ refl
      | false ↦ find_flipped R q cs
    ]

paired_over : {X : Type 0} (a b : Option X) → paired b a ≡ turned_over (paired a b)
paired_over None None = refl
paired_over None (Some y) = refl
paired_over (Some x) None = refl
paired_over (Some x) (Some y) = refl

module _ {K X : Type 0} (R : K → K → Ordering) (o : IsTotalOrder R) where
  pub changes_exchanged : IsAntisymmetric R → (old new : FinMap R X) → changes new old ≡ map flipped (changes old new)
  changes_exchanged one old new =
      same_entries R o one _ _ (entries_sorted (compared new old))
      (sorted_flipped R (changes old new) (entries_sorted (compared old new)))
      (λ q. sym (get-entries (compared new old) q) ∙ get-compared R o new old q ∙ paired_over (get old q) (get new q)
      ∙ ap turned_over (sym (get-compared R o old new q) ∙ get-entries (compared old new) q) ∙ sym (find_flipped R q (changes old new)))

-- ---- the answer of a run

pub first_counted : {X : Type 0} (p : X → Bool) (x : X) (xs : List X) → count_by p (x ∷ xs) ≡ cond (p x) 1 0 + count_by p xs
first_counted p x xs = omega (arith, sum_by-append (λ y. cond (p y) 1 0) (x ∷ []) xs)
