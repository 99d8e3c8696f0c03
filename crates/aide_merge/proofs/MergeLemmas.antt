-- The merge of two lists in the order of their keys is the list of what both have at each key.
use Rattle.std.specs.Prelude.{◌≡◌, ◌&&◌, ◌||◌, Bool, true, false, cond, T, List, [], ◌∷◌, ◌++◌, map, Some, None}
use Rattle.std.specs.Prelude.{is_some}
use Rattle.std.proofs.Common.{refl, sym, ap, subst, ◌∙◌}
use Rattle.std.specs.declared.option.Option.{Option}
use Rattle.std.specs.declared.cmp.Ordering.{Ordering}
use Rattle.std.specs.declared.cmp.Ordering.TheVariants.{Less, Equal, Greater}
use Rattle.std.specs.Ordering.{is_lt, is_eq, eq_by_cmp, ordering_reverse}
use Rattle.std.specs.Cmp.{IsTotalOrder, alike_right}
use Rattle.std.specs.List.{list_any}
use Rattle.std.proofs.lemmas.List.Folds.{list_any-append}
use Rattle.std.specs.FinMap.{FinMap, IsAntisymmetric, entries, keys, get, entries_sorted, get-entries, get-from_entries}
use Rattle.std.specs.FinMap.{get_tied, contains_key-keys}
use Rattle.std.specs.FinMap.Entries.{find, is_sorted, below_all, same_entries}
use Rattle.aide_merge.specs.Compare.{compared, changes}
use Rattle.aide_merge.specs.Merged.{weave, merged}

module _ {A B : Type 0} where
  abbrev pub paired : Option A → Option B → Option (Option A × Option B)
  paired None None = None
  paired None (Some y) = Some (None, Some y)
  paired (Some x) b = Some (Some x, b)

pub and_intro : (a b : Bool) → T a → T b → T (a && b)
and_intro true b p q = q
and_intro false b p q = absurd p

pub and_first : (a b : Bool) → T (a && b) → T a
and_first true b p = tt
and_first false b p = absurd p

pub and_second : (a b : Bool) → T (a && b) → T b
and_second true b p = p
and_second false b p = absurd p

pub lt_less : (o : Ordering) → T (is_lt o) → o ≡ Less
lt_less Less p = refl
lt_less _ p = absurd p

less_lt : (o : Ordering) → o ≡ Less → T (is_lt o)
less_lt o e = subst (λ r. T (is_lt r)) (sym e) tt

eq_equal : (r : Ordering) → is_eq r ≡ true → r ≡ Equal
eq_equal Equal p = refl
eq_equal _ p = cc

turned : {K : Type 0} (R : K → K → Ordering) → IsTotalOrder R → (x y : K) → R x y ≡ Greater → R y x ≡ Less
turned R o x y p = o.antisymm y x ∙ ap ordering_reverse p

module _ {K X : Type 0} (R : K → K → Ordering) where
  module _ (o : IsTotalOrder R) where
    below_less : (x y : K) (es : List (K × X)) → R x y ≡ Less → T (below_all R y es) → T (below_all R x es)
    below_less x y [] p h = tt
    below_less x y (e ∷ es) p h = and_intro _ _ (less_lt _ (o.trans x y e.0 p (lt_less _ (and_first _ _ h))))
        (below_less x y es p (and_second _ _ h))

    below_tied : (x y : K) (es : List (K × X)) → R x y ≡ Equal → T (below_all R y es) → T (below_all R x es)
    below_tied x y [] p h = tt
    below_tied x y (e ∷ es) p h = and_intro _ _ (subst (λ r. T (is_lt r)) (sym (o.congr x y e.0 p)) (and_first _ _ h))
        (below_tied x y es p (and_second _ _ h))

    pub find_below : (q : K) (es : List (K × X)) → T (below_all R q es) → find R q es ≡ None
    find_below q [] h = refl
    find_below q (e ∷ es) h = ap (λ r. cond (is_eq r) (Some e.1) (find R q es)) (lt_less _ (and_first _ _ h))
        ∙ find_below q es (and_second _ _ h)

    -- a key below a list in order is below each key of it
    pub below_sorted : (x : K) (y : K × X) (ys : List (K × X)) → R x y.0 ≡ Less → T (is_sorted R (y ∷ ys))
        → T (below_all R x (y ∷ ys))
    below_sorted x y ys p h = and_intro _ _ (less_lt _ p) (below_less x y.0 ys p (and_first _ _ h))

    missing : (q x : K) (y : K × X) (ys : List (K × X)) → eq_by_cmp R q x ≡ true → R x y.0 ≡ Less
        → T (is_sorted R (y ∷ ys)) → find R q (y ∷ ys) ≡ None
    missing q x y ys t p h = find_below q (y ∷ ys) (below_tied q x (y ∷ ys) (eq_equal _ t) (below_sorted x y ys p h))

    find-right : (ys : List (K × X)) (q : K) → find R q (merged R [] ys) ≡ paired {A = X} None (find R q ys)
    find-right [] q = refl
    find-right (y ∷ ys) q = elim (eq_by_cmp R q y.0) as
        (λ b. cond b (Some (None, Some y.1)) (find R q (merged R [] ys)) ≡ paired {A = X} None (cond b (Some y.1) (find R q ys))) [
          | true ↦ refl
          | false ↦ find-right ys q
        ]

    find-weave : (x : K × X) (xs : List (K × X)) (q : K) → T (is_sorted R (x ∷ xs))
        → ((ys : List (K × X)) → T (is_sorted R ys) → find R q (merged R xs ys) ≡ paired (find R q xs) (find R q ys))
        → (ys : List (K × X)) → T (is_sorted R ys)
        → find R q (weave R x (merged R xs) ys) ≡ paired (find R q (x ∷ xs)) (find R q ys)
    find-weave x xs q g rest [] h =
        elim (eq_by_cmp R q x.0) as (λ b. cond b (Some (Some x.1, None)) (find R q (merged R xs []))
        ≡ paired (cond b (Some x.1) (find R q xs)) (find R q [])) [
          | true ↦ refl
          | false ↦ rest [] tt
        ]
    find-weave x xs q g rest (y ∷ ys) h =
        elim (R x.0 y.0) as (λ r. R x.0 y.0 ≡ r → find R q (elim r [
          | Less ↦ (x.0, (Some x.1, None)) ∷ merged R xs (y ∷ ys)
          | Equal ↦ (x.0, (Some x.1, Some y.1)) ∷ merged R xs ys
          | Greater ↦ (y.0, (None, Some y.1)) ∷ weave R x (merged R xs) ys
        ]) ≡ paired (find R q (x ∷ xs)) (find R q (y ∷ ys))) [
          | Less ↦ λ p. elim (eq_by_cmp R q x.0) as
              (λ b. eq_by_cmp R q x.0 ≡ b → cond b (Some (Some x.1, None)) (find R q (merged R xs (y ∷ ys)))
              ≡ paired (cond b (Some x.1) (find R q xs)) (find R q (y ∷ ys))) [
                | true ↦ λ t. ap (λ w. paired (Some x.1) w) (sym (missing q x.0 y ys t p h))
                | false ↦ λ t. rest (y ∷ ys) h
              ] refl
          | Equal ↦ λ p.
              let same : eq_by_cmp R q x.0 ≡ eq_by_cmp R q y.0 = ap is_eq (alike_right o x.0 y.0 q p) in
              elim (eq_by_cmp R q x.0) as (λ b. b ≡ eq_by_cmp R q y.0 → cond b (Some (Some x.1, Some y.1)) (find R q (merged R xs ys))
              ≡ paired (cond b (Some x.1) (find R q xs)) (find R q (y ∷ ys))) [
                | true ↦ λ t. ap (λ b. paired (Some x.1) (cond b (Some y.1) (find R q ys))) t
                | false ↦ λ t. rest ys (and_second _ _ h) ∙ ap (λ b. paired (find R q xs) (cond b (Some y.1) (find R q ys))) t
              ] same
          | Greater ↦ λ p. elim (eq_by_cmp R q y.0) as
              (λ b. eq_by_cmp R q y.0 ≡ b → cond b (Some (None, Some y.1)) (find R q (weave R x (merged R xs) ys))
              ≡ paired (find R q (x ∷ xs)) (cond b (Some y.1) (find R q ys))) [
                | true ↦ λ t. ap (λ w. paired w (Some y.1)) (sym (missing q y.0 x xs t (turned R o _ _ p) g))
                | false ↦ λ t. find-weave x xs q g rest ys (and_second _ _ h)
              ] refl
        ] refl

    -- what the merge has at a key is what both lists have there
    pub find-merged : (xs ys : List (K × X)) → T (is_sorted R xs) → T (is_sorted R ys) → (q : K)
        → find R q (merged R xs ys) ≡ paired (find R q xs) (find R q ys)
    find-merged [] ys g h q = find-right ys q
    find-merged (x ∷ xs) ys g h q = find-weave x xs q g (λ zs k. find-merged xs zs (and_second _ _ g) k q) ys h

    below-right : (z : K) (ys : List (K × X)) → T (below_all R z ys) → T (below_all R z (merged R [] ys))
    below-right z [] h = tt
    below-right z (y ∷ ys) h = and_intro _ _ (and_first _ _ h) (below-right z ys (and_second _ _ h))

    below-weave : (z : K) (x : K × X) (xs : List (K × X)) → T (is_lt (R z x.0))
        → ((ys : List (K × X)) → T (below_all R z ys) → T (below_all R z (merged R xs ys)))
        → (ys : List (K × X)) → T (below_all R z ys) → T (below_all R z (weave R x (merged R xs) ys))
    below-weave z x xs g rest [] h = and_intro _ _ g (rest [] tt)
    below-weave z x xs g rest (y ∷ ys) h =
        elim (R x.0 y.0) as (λ r. T (below_all R z (elim r [
          | Less ↦ (x.0, (Some x.1, None)) ∷ merged R xs (y ∷ ys)
          | Equal ↦ (x.0, (Some x.1, Some y.1)) ∷ merged R xs ys
          | Greater ↦ (y.0, (None, Some y.1)) ∷ weave R x (merged R xs) ys
        ]))) [
          | Less ↦ and_intro _ _ g (rest (y ∷ ys) h)
          | Equal ↦ and_intro _ _ g (rest ys (and_second _ _ h))
          | Greater ↦ and_intro _ _ (and_first _ _ h) (below-weave z x xs g rest ys (and_second _ _ h))
        ]

    below-merged : (z : K) (xs ys : List (K × X)) → T (below_all R z xs) → T (below_all R z ys)
        → T (below_all R z (merged R xs ys))
    below-merged z [] ys g h = below-right z ys h
    below-merged z (x ∷ xs) ys g h = below-weave z x xs (and_first _ _ g) (λ zs k. below-merged z xs zs (and_second _ _ g) k) ys h

    sorted-right : (ys : List (K × X)) → T (is_sorted R ys) → T (is_sorted R (merged R [] ys))
    sorted-right [] h = tt
    sorted-right (y ∷ ys) h = and_intro _ _ (below-right y.0 ys (and_first _ _ h)) (sorted-right ys (and_second _ _ h))

    sorted-weave : (x : K × X) (xs : List (K × X)) → T (is_sorted R (x ∷ xs))
        → ((ys : List (K × X)) → T (is_sorted R ys) → T (is_sorted R (merged R xs ys)))
        → (ys : List (K × X)) → T (is_sorted R ys) → T (is_sorted R (weave R x (merged R xs) ys))
    sorted-weave x xs g rest [] h = and_intro _ _ (below-merged x.0 xs [] (and_first _ _ g) tt) (rest [] tt)
    sorted-weave x xs g rest (y ∷ ys) h =
        elim (R x.0 y.0) as (λ r. R x.0 y.0 ≡ r → T (is_sorted R (elim r [
          | Less ↦ (x.0, (Some x.1, None)) ∷ merged R xs (y ∷ ys)
          | Equal ↦ (x.0, (Some x.1, Some y.1)) ∷ merged R xs ys
          | Greater ↦ (y.0, (None, Some y.1)) ∷ weave R x (merged R xs) ys
        ]))) [
          | Less ↦ λ p. and_intro _ _ (below-merged x.0 xs (y ∷ ys) (and_first _ _ g) (below_sorted x.0 y ys p h)) (rest (y ∷ ys) h)
          | Equal ↦ λ p. and_intro _ _ (below-merged x.0 xs ys (and_first _ _ g) (below_tied x.0 y.0 ys p (and_first _ _ h)))
              (rest ys (and_second _ _ h))
          | Greater ↦ λ p. and_intro _ _ (below-merged y.0 (x ∷ xs) ys (below_sorted y.0 x xs (turned R o _ _ p) g) (and_first _ _ h))
              (sorted-weave x xs g rest ys (and_second _ _ h))
        ] refl

    pub sorted-merged : (xs ys : List (K × X)) → T (is_sorted R xs) → T (is_sorted R ys)
        → T (is_sorted R (merged R xs ys))
    sorted-merged [] ys g h = sorted-right ys h
    sorted-merged (x ∷ xs) ys g h = sorted-weave x xs g (λ zs k. sorted-merged xs zs (and_second _ _ g) k) ys h

found_by : {K Z : Type 0} (R : K → K → Ordering) (f : K → Z) (q : K) → ((x : K) → R q x ≡ Equal → f x ≡ f q)
    → (ks : List K) → find R q (map (λ p. (p, f p)) ks) ≡ cond (list_any (eq_by_cmp R q) ks) (Some (f q)) None
found_by R f q alike [] = refl
found_by R f q alike (k ∷ ks) = elim (eq_by_cmp R q k) as
    (λ b. eq_by_cmp R q k ≡ b → cond b (Some (f k)) (find R q (map (λ p. (p, f p)) ks))
    ≡ cond (b || list_any (eq_by_cmp R q) ks) (Some (f q)) None) [
      | true ↦ λ t. ap Some (alike k (eq_equal _ t))
      | false ↦ λ t. found_by R f q alike ks
    ] refl

either : {A : Type 0} (a b : Option A) → cond (is_some a || is_some b) (Some (a, b)) None ≡ paired a b
either None None = refl
either None (Some y) = refl
either (Some x) b = refl

module _ {K X : Type 0} (R : K → K → Ordering) (o : IsTotalOrder R) where
  -- the comparison of two maps has, at each key, what both have there
  pub get-compared : (old new : FinMap R X) (q : K) → get (compared old new) q ≡ paired (get old q) (get new q)
  get-compared old new q =
      get-from_entries o _ q
      ∙ found_by R (λ k. (get old k, get new k)) q (λ x t i. (get_tied o old q x t i, get_tied o new q x t i)) (keys old ++ keys new)
      ∙ ap (λ b. cond b (Some (get old q, get new q)) None)
      (list_any-append (eq_by_cmp R q) (keys old) (keys new) ∙ (λ i. sym (contains_key-keys old q) i || sym (contains_key-keys new q) i))
      ∙ either (get old q) (get new q)

  -- the merge of the entries of two maps is their comparison, in the order of the keys
  pub changes-merged : IsAntisymmetric R → (old new : FinMap R X)
      → changes old new ≡ merged R (entries old) (entries new)
  changes-merged one old new =
      same_entries R o one _ _ (entries_sorted (compared old new))
      (sorted-merged R o (entries old) (entries new) (entries_sorted old) (entries_sorted new))
      (λ q. sym (get-entries (compared old new) q) ∙ get-compared old new q
      ∙ (λ i. paired (get-entries old q i) (get-entries new q i))
      ∙ sym (find-merged R o (entries old) (entries new) (entries_sorted old) (entries_sorted new) q))
