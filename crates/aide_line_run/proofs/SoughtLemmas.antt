-- What the trusted pair has at the path of each change, and what follows of the changes to come.
use Rattle.std.specs.Prelude.{◌≡◌, ℕ, Bool, true, false, cond, T, List, [], ◌∷◌, ◌++◌, Option, None}
use Rattle.std.proofs.Common.{◌∙◌, ap, refl, rules, subst, sym}
use Rattle.std.specs.declared.cmp.Ordering.{Ordering}
use Rattle.std.specs.declared.cmp.Ordering.TheVariants.{Less, Equal, Greater}
use Rattle.std.specs.Ordering.{is_eq, is_lt}
use Rattle.std.specs.List.{flat_map}
use Rattle.std.specs.FinMap.Entries.{is_sorted, below_all}
use Rattle.aide_agreement.specs.Account.{Pair, same_as}
use Rattle.aide_line_text.specs.declared.account.Account.{Account}
use Rattle.aide_fields.specs.Attributes.{Entry}
use Rattle.aide_fields.specs.Path.{path_cmp}
use Rattle.aide_fields.proofs.PathLaws.{path_cmp_total}
use Rattle.aide_merge.specs.Said.{PathChange}
use Rattle.aide_merge.specs.code.ChangeView.{alike_of}
use Rattle.aide_merge.proofs.MergeLemmas.{and_first, and_second}
use Rattle.aide_line_run.specs.Listed.{Leaves, account_by}
use Rattle.aide_line_run.specs.Sought.{Accounted, all_sought, found_at, seek, sought_by}

-- ---- what is sought

pub seek_none : (path : List ℕ) (rest : List PathChange) → rest ≡ [] → rest ≡ seek path rest
seek_none path rest none = none ∙ sym (ap (seek path) none)

pub seek_here : (path : List ℕ) (c : PathChange) (more rest : List PathChange) → rest ≡ c ∷ more
    → is_lt (path_cmp c.0 path) ≡ false → rest ≡ seek path rest
seek_here path c more rest is here =
    is ∙ sym (ap (λ b. cond b (seek path more) (c ∷ more)) here) ∙ sym (ap (seek path) is)

pub seek_past : (path : List ℕ) (c : PathChange) (more rest : List PathChange) → rest ≡ c ∷ more
    → is_lt (path_cmp c.0 path) ≡ true → seek path rest ≡ seek path more
seek_past path c more rest is past =
    ap (seek path) is ∙ ap (λ b. cond b (seek path more) (c ∷ more)) past

-- ---- what is found

pub found_here : (path : List ℕ) (c : PathChange) (more rest : List PathChange) → rest ≡ c ∷ more
    → is_eq (path_cmp c.0 path) ≡ true → found_at path rest ≡ c.1
found_here path c more rest is here =
    ap (found_at path) is ∙ ap (λ b. cond {A = Pair} b c.1 (None, None)) here

pub found_other : (path : List ℕ) (c : PathChange) (more rest : List PathChange) → rest ≡ c ∷ more
    → is_eq (path_cmp c.0 path) ≡ false → found_at path rest ≡ (None, None)
found_other path c more rest is other =
    ap (found_at path) is ∙ ap (λ b. cond {A = Pair} b c.1 (None, None)) other

-- ---- what accounts for a later change is the same once earlier paths are passed on

lt_is : (r : Ordering) → is_lt r ≡ true → r ≡ Less
lt_is Less e = refl
lt_is Equal e = cc
lt_is Greater e = cc

-- what comes before a path comes before each later path
seek_again : (path later : List ℕ) → is_lt (path_cmp path later) ≡ true → (es : List PathChange)
    → seek later (seek path es) ≡ seek later es
seek_again path later before [] = refl
seek_again path later before (e ∷ es) =
    elim (is_lt (path_cmp e.0 path)) as (λ b. is_lt (path_cmp e.0 path) ≡ b
    → seek later (cond b (seek path es) (e ∷ es)) ≡ seek later (e ∷ es)) [
      | true ↦ λ is.
          let across : is_lt (path_cmp e.0 later) ≡ true =
          ap is_lt (path_cmp_total.trans e.0 path later (lt_is (path_cmp e.0 path) is) (lt_is (path_cmp path later) before)) in
          seek_again path later before es ∙ sym (ap (λ b. cond b (seek later es) (e ∷ es)) across)
      | false ↦ λ is. refl
    ] refl

pub T_true : (b : Bool) → T b → b ≡ true
T_true true h = refl
T_true false h = absurd h

true_T : (b : Bool) → b ≡ true → T b
true_T b is = subst T (sym is) tt

sought_later : (leaves : Leaves) (path : List ℕ) (es cs : List PathChange) → T (below_all path_cmp path cs)
    → all_sought leaves cs (seek path es) ≡ all_sought leaves cs es
sought_later leaves path es [] below = refl
sought_later leaves path es (c ∷ cs) below =
    let first : (c, sought_by leaves (seek path es) c) ≡ (c, sought_by leaves es c) =
    ap (λ l. (c, account_by (same_as c.1 (found_at c.0 l)) (leaves c))) (seek_again path c.0 (T_true _ (and_first _ _ below)) es) in
    let more = sought_later leaves path es cs (and_second _ _ below) in
    λ i. first i ∷ more i

-- ---- changes, one after another

-- what is left of changes in order is in order
pub sorted_rest : (c : PathChange) (rest changes more : List PathChange) → rest ≡ changes ++ more → changes ≡ c ∷ []
    → is_sorted path_cmp rest ≡ true → is_sorted path_cmp more ≡ true
sorted_rest c rest changes more is one sorted = search (rules, T_true, and_second, true_T)

-- one change more
pub sought_more : (leaves : Leaves) (c : PathChange) (rest changes more es sought : List PathChange) (account : Option Account)
    → rest ≡ changes ++ more → changes ≡ c ∷ [] → sought ≡ seek c.0 es
    → account ≡ account_by (same_as c.1 (found_at c.0 sought)) (leaves c) → is_sorted path_cmp rest ≡ true
    → all_sought leaves rest es ≡ ((c, account) ∷ []) ++ all_sought leaves more sought
sought_more leaves c rest changes more es sought account is one sought_is told sorted =
    search (rules, sought_later, and_first, true_T)

-- an entry that both sides have alike
pub sought_alike : (leaves : Leaves) (entry : Entry) (rest changes more es : List PathChange) → rest ≡ changes ++ more
    → changes ≡ alike_of entry ∷ [] → all_sought leaves rest es
    ≡ ((alike_of entry, sought_by leaves es (alike_of entry)) ∷ []) ++ all_sought leaves more es
sought_alike leaves entry rest changes more es is one = ap (λ l. all_sought leaves l es) (is ∙ ap (λ l. l ++ more) one)

-- ---- their texts, one after another

module _ (text : Accounted → List ℕ) (leaves : Leaves) where
  pub one_sought : (c : PathChange) (rest changes more es sought : List PathChange) (account : Option Account)
      → rest ≡ changes ++ more → changes ≡ c ∷ [] → sought ≡ seek c.0 es
      → account ≡ account_by (same_as c.1 (found_at c.0 sought)) (leaves c) → is_sorted path_cmp rest ≡ true
      → flat_map text (all_sought leaves rest es) ≡ text (c, account) ++ flat_map text (all_sought leaves more sought)
  one_sought c rest changes more es sought account is one sought_is told sorted =
      ap (flat_map text) (sought_more leaves c rest changes more es sought account is one sought_is told sorted)

  -- an entry that both sides have alike has no text
  pub alike_sought : (entry : Entry) (rest changes more es : List PathChange)
      → ((account : Option Account) → text (alike_of entry, account) ≡ [])
      → rest ≡ changes ++ more → changes ≡ alike_of entry ∷ []
      → flat_map text (all_sought leaves rest es) ≡ flat_map text (all_sought leaves more es)
  alike_sought entry rest changes more es nothing is one = search (rules, sought_alike)

  pub none_sought : (rest es : List PathChange) → rest ≡ [] → flat_map text (all_sought leaves rest es) ≡ []
  none_sought rest es none = ap (λ l. flat_map text (all_sought leaves l es)) none
