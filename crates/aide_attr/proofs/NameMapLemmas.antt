-- Maps from names to values: what the entries of the code's map say of the finite map.
use Rattle.std.proofs.Common.{ℕ, suc, ◌≡◌, Bool, true, false, List, [], ◌∷◌, Option, Some, None, refl, sym, ap, ◌∙◌}
use Rattle.std.proofs.Common.{cond, Vec, length, Ordering}
use Rattle.std.proofs.Common.{Less, subst, T, ◌&&◌, rules}
use Rattle.std.specs.Prelude.{map, is_some, option_map}
use Rattle.std.specs.Cmp.{eq_by_cmp_equiv, IsEquivalence}
use Rattle.std.specs.Cmp.Lexicographic.{slice_cmp, nat_list_cmp_total}
use Rattle.std.specs.Ordering.{nat_cmp, match_ordering, is_lt, eq_by_cmp}
use Rattle.std.specs.FinMap.Entries.{below_all, by_order, find-put}
use Rattle.std.specs.List.{AllByRecursion}
use Rattle.std.specs.List.Sorted.{IsStrictlySortedBy}
use Rattle.std.specs.FinMap.{IsAntisymmetric, from_entries, from_sorted, empty, get, find, put}
use Rattle.std.specs.FinMap.{insert, remove, len, entries, is_sorted, same_map, get-from_entries}
use Rattle.std.specs.FinMap.{get-from_sorted, get-entries, get-empty, get-insert, get-remove}
use Rattle.std.specs.FinMap.{entries_sorted, entries-from_sorted, len-entries, slice_cmp-IsAntisymmetric, nat_cmp-IsAntisymmetric}
use Rattle.std.specs.BTreeMap.{is_at, insert_entry}
use Rattle.std.specs.Map.{lookup, keys_of, KeepsOthers}
use Rattle.aide_attr.specs.NameMap.{Names, named, seen}

-- ---- lists of entries in order

exact : IsAntisymmetric (slice_cmp nat_cmp)
exact = slice_cmp-IsAntisymmetric nat_cmp-IsAntisymmetric

both : (a b : Bool) → T a → T b → T (a && b)
both true b p q = q
both false b p q = p

-- how many names a map has that is made of entries in order
len_sorted : {X : Type 0} (es : List (List ℕ × X)) → T (is_sorted (slice_cmp nat_cmp) es) → len (from_entries {R = slice_cmp nat_cmp} es)
    ≡ length es
len_sorted es h =
    let is_same : from_entries {R = slice_cmp nat_cmp} es ≡ from_sorted es =
    same_map nat_list_cmp_total exact _ _ (λ q. get-from_entries nat_list_cmp_total es q
    ∙ sym (get-from_sorted (slice_cmp nat_cmp) es q h)) in
    ap len is_same ∙ len-entries _ ∙ ap length (entries-from_sorted (slice_cmp nat_cmp) es h)

-- ---- the entries of the code's map

module _ {A X : Type 0} where
  abbrev plain : List (Vec ℕ A × X) → List (List ℕ × X)
  plain es = map (λ e. (e.0.items, e.1)) es

  below : (k : Vec ℕ A) (es : List (Vec ℕ A × X))
      → AllByRecursion (λ (y : Vec ℕ A). slice_cmp nat_cmp k.items y.items ≡ Less) (keys_of es)
      → T (below_all (slice_cmp nat_cmp) k.items (plain es))
  below k [] h = tt
  below k (e ∷ es) h = both _ _ (subst (λ r. T (is_lt r)) (sym h.0) tt) (below k es h.1)

  sorted : (es : List (Vec ℕ A × X))
      → IsStrictlySortedBy (λ (v w : Vec ℕ A). slice_cmp nat_cmp v.items w.items) (keys_of es)
      → T (is_sorted (slice_cmp nat_cmp) (plain es))
  unfolding IsStrictlySortedBy
  sorted [] h = tt
  sorted (e ∷ es) h = both _ _ (below e.0 es h.0) (sorted es h.1)

  find_name : (es : List (Vec ℕ A × X)) (q : List ℕ)
      → find (slice_cmp nat_cmp) q (plain es) ≡ lookup (is_at (λ (v : Vec ℕ A). slice_cmp nat_cmp q v.items)) es
  find_name [] q = refl
  find_name (e ∷ es) q = ap (cond (is_at (λ (v : Vec ℕ A). slice_cmp nat_cmp q v.items) e.0) (Some e.1)) (find_name es q)

  -- what the map has under a name
  pub get_name : (es : List (Vec ℕ A × X)) (q : List ℕ)
      → get (named es) q ≡ lookup (is_at (λ (v : Vec ℕ A). slice_cmp nat_cmp q v.items)) es
  get_name es q = get-from_entries nat_list_cmp_total (plain es) q ∙ find_name es q

  length_plain : (es : List (Vec ℕ A × X)) → length (plain es) ≡ length es
  length_plain [] = refl
  length_plain (e ∷ es) = ap suc (length_plain es)

  -- how many names it has
  pub len_names : (es : List (Vec ℕ A × X))
      → IsStrictlySortedBy (λ (v w : Vec ℕ A). slice_cmp nat_cmp v.items w.items) (keys_of es)
      → len (named es) ≡ length es
  len_names es h = len_sorted (plain es) (sorted es h) ∙ length_plain es

  plain_match : (o : Ordering) (a b c : List (Vec ℕ A × X))
      → plain (match_ordering o a b c) ≡ by_order o (plain a) (plain b) (plain c)
  plain_match Less a b c = refl
  plain_match _ a b c = refl

  plain_insert : (es : List (Vec ℕ A × X)) (k : Vec ℕ A) (v : X)
      → plain (insert_entry (λ (v w : Vec ℕ A). slice_cmp nat_cmp v.items w.items) es k v) ≡ put (slice_cmp nat_cmp) k.items v (plain es)
  plain_insert [] k v = refl
  plain_insert (e ∷ es) k v = search (rules, plain_insert es k v, plain_match, plain)

  -- the map after a name is given a value
  pub insert_name : (es fs : List (Vec ℕ A × X)) (k : Vec ℕ A) (v : X)
      → fs ≡ insert_entry (λ (v w : Vec ℕ A). slice_cmp nat_cmp v.items w.items) es k v
      → named fs ≡ insert (named es) k.items v
  insert_name es fs k v e = same_map nat_list_cmp_total exact _ _ (λ q.
      get-from_entries nat_list_cmp_total (plain fs) q ∙ ap (find (slice_cmp nat_cmp) q) (ap plain e ∙ plain_insert es k v)
      ∙ find-put (slice_cmp nat_cmp) nat_list_cmp_total q k.items v (plain es)
      ∙ sym (get-insert nat_list_cmp_total (named es) k.items v q
      ∙ ap (cond (eq_by_cmp (slice_cmp nat_cmp) q k.items) (Some v)) (get-from_entries nat_list_cmp_total (plain es) q)))

pub tied : (q k : List ℕ) → eq_by_cmp (slice_cmp nat_cmp) q k ≡ true → q ≡ k
tied q k e = search (rules, exact)

-- the map after a name is taken away
module _ {A X : Type 0} (es fs : List (Vec ℕ A × X)) (k : List ℕ)
    (gone : lookup (is_at (λ (v : Vec ℕ A). slice_cmp nat_cmp k v.items)) fs ≡ None)
    (kept : KeepsOthers (eq_by_cmp (λ (v w : Vec ℕ A). slice_cmp nat_cmp v.items w.items))
    (is_at (λ (v : Vec ℕ A). slice_cmp nat_cmp k v.items)) es fs) where
  laws : IsEquivalence (eq_by_cmp (slice_cmp nat_cmp))
  laws = eq_by_cmp_equiv nat_list_cmp_total

  left : (q : List ℕ) (b : Bool) → eq_by_cmp (slice_cmp nat_cmp) q k ≡ b
      → lookup (is_at (λ (v : Vec ℕ A). slice_cmp nat_cmp q v.items)) fs ≡ cond b None
      (lookup (is_at (λ (v : Vec ℕ A). slice_cmp nat_cmp q v.items)) es)
  unfolding KeepsOthers
  left q true e = subst (λ z. lookup (is_at (λ (v : Vec ℕ A). slice_cmp nat_cmp z v.items)) fs ≡ None) (sym (tied q k e)) gone
  left q false e = kept (is_at (λ (v : Vec ℕ A). slice_cmp nat_cmp q v.items)) (λ x y t. laws.congr q x.items y.items t)
      (λ v t. laws.symm q v.items ∙ sym (laws.congr k v.items q t) ∙ laws.symm k q ∙ e)

  pub remove_name : named fs ≡ remove (named es) k
  remove_name = same_map nat_list_cmp_total exact _ _ (λ q.
      get_name fs q ∙ left q (eq_by_cmp (slice_cmp nat_cmp) q k) refl
      ∙ sym (get-remove nat_list_cmp_total (named es) k q ∙ ap (cond (eq_by_cmp (slice_cmp nat_cmp) q k) None) (get_name es q)))

-- what is lent is seen through
pub is_none : {X Y : Type 0} (f : X → Y) (o : Option X) (r : Option Y) → option_map f o ≡ r → is_some o ≡ false
    → r ≡ None
is_none f None r e h = sym e
is_none f (Some x) r e h = let bad : true ≡ false = h in cc

-- ---- values seen through a function

module _ {X Y : Type 0} (f : X → Y) where
  abbrev through : List (List ℕ × X) → List (List ℕ × Y)
  through es = map (λ e. (e.0, f e.1)) es

  found : (b : Bool) (v : X) (r : Option X) (s : Option Y) → s ≡ option_map f r
      → cond b (Some (f v)) s ≡ option_map f (cond b (Some v) r)
  found true v r s e = refl
  found false v r s e = e

  find_through : (es : List (List ℕ × X)) (q : List ℕ)
      → find (slice_cmp nat_cmp) q (through es) ≡ option_map f (find (slice_cmp nat_cmp) q es)
  find_through [] q = refl
  find_through (e ∷ es) q = found (eq_by_cmp (slice_cmp nat_cmp) q e.0) e.1 _ _ (find_through es q)

  pub get-seen : (m : Names X) (q : List ℕ) → get (seen f m) q ≡ option_map f (get m q)
  get-seen m q = get-from_entries nat_list_cmp_total (through (entries m)) q ∙ find_through (entries m) q
      ∙ ap (option_map f) (sym (get-entries m q))

  below_through : (k : List ℕ) (es : List (List ℕ × X))
      → below_all (slice_cmp nat_cmp) k (through es) ≡ below_all (slice_cmp nat_cmp) k es
  below_through k [] = refl
  below_through k (e ∷ es) = ap (λ b. is_lt (slice_cmp nat_cmp k e.0) && b) (below_through k es)

  sorted_through : (es : List (List ℕ × X))
      → is_sorted (slice_cmp nat_cmp) (through es) ≡ is_sorted (slice_cmp nat_cmp) es
  sorted_through [] = refl
  sorted_through (e ∷ es) = ap (λ b. b && is_sorted (slice_cmp nat_cmp) (through es)) (below_through e.0 es)
      ∙ ap (λ b. below_all (slice_cmp nat_cmp) e.0 es && b) (sorted_through es)

  length_through : (es : List (List ℕ × X)) → length (through es) ≡ length es
  length_through [] = refl
  length_through (e ∷ es) = ap suc (length_through es)

  pub len-seen : (m : Names X) → len (seen f m) ≡ len m
  len-seen m = len_sorted (through (entries m)) (subst T (sym (sorted_through (entries m))) (entries_sorted m)) ∙ length_through (entries m)
      ∙ sym (len-entries m)

  pub seen-empty : seen f empty ≡ empty
  seen-empty = same_map nat_list_cmp_total exact _ _ (λ q.
      get-seen empty q ∙ ap (option_map f) (get-empty (slice_cmp nat_cmp) q) ∙ sym (get-empty (slice_cmp nat_cmp) q))

  pub seen-insert : (m : Names X) (k : List ℕ) (v : X) → seen f (insert m k v) ≡ insert (seen f m) k (f v)
  seen-insert m k v = same_map nat_list_cmp_total exact _ _ (λ q.
      get-seen (insert m k v) q ∙ ap (option_map f) (get-insert nat_list_cmp_total m k v q)
      ∙ sym (found (eq_by_cmp (slice_cmp nat_cmp) q k) v _ _ (get-seen m q))
      ∙ sym (get-insert nat_list_cmp_total (seen f m) k (f v) q))

  lost : (b : Bool) (r : Option X) (s : Option Y) → s ≡ option_map f r → cond b None s ≡ option_map f (cond b None r)
  lost true r s e = refl
  lost false r s e = e

  pub seen-remove : (m : Names X) (k : List ℕ) → seen f (remove m k) ≡ remove (seen f m) k
  seen-remove m k = same_map nat_list_cmp_total exact _ _ (λ q.
      get-seen (remove m k) q ∙ ap (option_map f) (get-remove nat_list_cmp_total m k q)
      ∙ sym (lost (eq_by_cmp (slice_cmp nat_cmp) q k) _ _ (get-seen m q))
      ∙ sym (get-remove nat_list_cmp_total (seen f m) k q))
