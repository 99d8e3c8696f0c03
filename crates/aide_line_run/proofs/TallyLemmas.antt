-- The numbers of the last line with a trusted pair, one change after another.
use Rattle.std.proofs.Common.{◌≡◌, ◌+◌, ◌-◌, ◌<◌, ◌^◌, ◌∙◌, ◌∷◌, ◌++◌, Bool, List, [], ap, arith, false, refl, rules, sym, true, ℕ}
use Rattle.std.specs.Prelude.{count_by, cond, ◌&&◌, Option, map}
use Rattle.std.specs.List.{flat_map}
use Rattle.std.proofs.lemmas.Grind.{flat_map-append}
use Rattle.std.proofs.lemmas.List.{append-nil}
use Rattle.std.proofs.lemmas.List.Sums.{count_by-le-length, sum_by-append}
use Rattle.aide_line_text.specs.declared.account.Account.{Account}
use Rattle.aide_conf.specs.declared.options.Options.{Options}
use Rattle.aide_fields.specs.Attributes.{Entry}
use Rattle.aide_line_text.specs.declared.counts.LineCounts.{LineCounts}
use Rattle.aide_line_run.specs.ChangeLines.{Accounts, change_line, change_lines, listed_changes}
use Rattle.aide_line_run.specs.ChangeLines.{listed_line}
use Rattle.aide_merge.specs.Changed.{differ_by}
use Rattle.aide_merge.specs.Changes.{is_added, is_removed, is_changed, is_of_new}
use Rattle.aide_merge.specs.Said.{PathChange}
use Rattle.aide_line_run.specs.LineCounts.{account_count, entry_count, is_left_out, is_old}
use Rattle.aide_line_run.specs.LineCounts.{is_other, is_trusted}
use Rattle.aide_merge.specs.Said.{all_listed, is_in}
use Rattle.aide_merge.specs.code.ChangeView.{alike_of}
use Rattle.aide_line_run.specs.code.LineTally.{AreLinesBelow, sum_of_counts, tally}
use Rattle.aide_merge.proofs.SameEntries.{in_none, never_differs}
use Rattle.aide_merge.proofs.Laws.{first_counted}
use Rattle.aide_line_run.proofs.LineLemmas.{lines_one}
use Rattle.aide_line_run.proofs.LineTallyLemmas.{tally_accounted, tally_alone}
use Rattle.aide_line_run.specs.Listed.{Leaves}
use Rattle.aide_line_run.specs.Sought.{Accounted, accounted_line, accounted_lines, all_sought, sought_by}
use Rattle.aide_line_run.specs.code.Tallied.{of_account, of_change, tally_of}

counted_pairs : (p : Accounted → Bool) (account : Accounts) (cs : List PathChange)
    → count_by (λ c. p (c, account c)) cs ≡ count_by p (map (λ c. (c, account c)) cs)
counted_pairs p account [] = refl
counted_pairs p account (c ∷ cs) =
    omega (
      arith,
      first_counted (λ x. p (x, account x)) c cs,
      first_counted p (c, account c) (map (λ x. (x, account x)) cs),
      counted_pairs
          p account cs,
    )

one_more : (p : Accounted → Bool) (m : Accounted) (a : ℕ) (rest more : List Accounted) → rest ≡ (m ∷ []) ++ more
    → (a + count_by p (m ∷ [])) + count_by p more ≡ a + count_by p rest
one_more p m a rest more is = omega (arith, ap (count_by p) is, sum_by-append (λ x. cond (p x) 1 0) (m ∷ []) more)

counted_behind : (p : Accounted → Bool) (ms ns : List Accounted) → count_by p (ms ++ ns) ≡ count_by p ms + count_by p ns
counted_behind p ms ns = sum_by-append (λ x. cond (p x) 1 0) ms ns

small_one : (p : Accounted → Bool) (m : Accounted) (a top k n : ℕ) → n < k → a < top - k → a + count_by p (m ∷ []) < top - n
small_one p m a top k n less small = omega (arith, less, small, count_by-le-length p (m ∷ []))

uncounted : (p : Accounted → Bool) (m : Accounted) (a : ℕ) → p m ≡ false → a ≡ a + count_by p (m ∷ [])
uncounted p m a is = rw is (omega arith)

module _ (options : Options) where
  abbrev differs : PathChange → Bool
  differs = is_changed (differ_by options.ignore)

  pub tally_pairs : (leaves : Leaves) (cs trusted : List PathChange)
      → tally options (sought_by leaves trusted) cs ≡ tally_of options (all_sought leaves cs trusted)
  tally_pairs leaves cs trusted = λ i. record {
    total = counted_pairs (of_change is_of_new) (sought_by leaves trusted) cs i;
    added = counted_pairs (of_change is_added) (sought_by leaves trusted) cs i;
    removed = counted_pairs (of_change is_removed) (sought_by leaves trusted) cs i;
    changed = counted_pairs (of_change differs) (sought_by leaves trusted) cs i;
    same_as_old = counted_pairs (of_account options is_old) (sought_by leaves trusted) cs i;
    same_as_trusted = counted_pairs (of_account options is_trusted) (sought_by leaves trusted) cs i;
    left_out = counted_pairs (of_account options is_left_out) (sought_by leaves trusted) cs i;
    others = counted_pairs (of_account options is_other) (sought_by leaves trusted) cs i;
  }

  -- one change more
  pub tally_more : (a b all : LineCounts) (m : Accounted) (rest more : List Accounted) → rest ≡ (m ∷ []) ++ more
      → b ≡ sum_of_counts a (tally_of options (m ∷ []))
      → sum_of_counts a (tally_of options rest) ≡ all → sum_of_counts b (tally_of options more) ≡ all
  tally_more a b all m rest more is grows so_far =
      ap (λ (c : LineCounts). sum_of_counts c (tally_of options more)) grows
      ∙ (λ i. record {
        total = one_more (of_change is_of_new) m a.total rest more is i;
        added = one_more (of_change is_added) m a.added rest more is i;
        removed = one_more (of_change is_removed) m a.removed rest more is i;
        changed = one_more (of_change differs) m a.changed rest more is i;
        same_as_old = one_more (of_account options is_old) m a.same_as_old rest more is i;
        same_as_trusted = one_more (of_account options is_trusted) m a.same_as_trusted rest more is i;
        left_out = one_more (of_account options is_left_out) m a.left_out rest more is i;
        others = one_more (of_account options is_other) m a.others rest more is i;
      })
      ∙ so_far

  -- no count rises by more than one
  pub small_more : (a b : LineCounts) (m : Accounted) (top k n : ℕ) → n < k → b ≡ sum_of_counts a (tally_of options (m ∷ []))
      → AreLinesBelow a (top - k) → AreLinesBelow b (top - n)
  small_more a b m top k n less grows small = search (rules, small_one, differs)

  -- and none reaches the top
  pub below_all : (a : LineCounts) (top k : ℕ) → AreLinesBelow a (top - k) → AreLinesBelow a top
  below_all a top k small = search rules

  no_line : (passes : Option Account → Bool) (entry : Entry) (account : Option Account)
      → of_account options passes (alike_of entry, account) ≡ false
  no_line passes entry account = ap (λ b. b && passes account) (in_none options all_listed entry)

  -- an entry that both databases have alike is counted in the total alone
  pub tally_alike : (a : LineCounts) (entry : Entry) (account : Option Account)
      → record a { total = a.total + 1 } ≡ sum_of_counts a (tally_of options ((alike_of entry, account) ∷ []))
  tally_alike a entry account = search (rules, uncounted, differs, never_differs, no_line)

  -- nothing is left
  pub tally_none : (a all : LineCounts) → sum_of_counts a (tally_of options []) ≡ all → a ≡ all
  tally_none a all is = sym (λ i. record {
    total = plus_none a.total i;
    added = plus_none a.added i;
    removed = plus_none a.removed i;
    changed = plus_none a.changed i;
    same_as_old = plus_none a.same_as_old i;
    same_as_trusted = plus_none a.same_as_trusted i;
    left_out = plus_none a.left_out i;
    others = plus_none a.others i;
  }) ∙ is
    where
      plus_none : (n : ℕ) → n + 0 ≡ n
      plus_none n = omega arith

  -- nothing was counted before
  pub tally_start : (a all : LineCounts) → a ≡ record
      { total = 0; added = 0; removed = 0; changed = 0; same_as_old = 0; same_as_trusted = 0; left_out = 0; others = 0 }
      → sum_of_counts a all ≡ all
  tally_start a all is = ap (λ (c : LineCounts). sum_of_counts c all) is ∙ (λ i. record {
    total = none_plus all.total i;
    added = none_plus all.added i;
    removed = none_plus all.removed i;
    changed = none_plus all.changed i;
    same_as_old = none_plus all.same_as_old i;
    same_as_trusted = none_plus all.same_as_trusted i;
    left_out = none_plus all.left_out i;
    others = none_plus all.others i;
  })
    where
      none_plus : (n : ℕ) → 0 + n ≡ n
      none_plus n = omega arith

  pub small_start : (a : LineCounts) (work : ℕ)
      → a ≡ record { total = 0; added = 0; removed = 0; changed = 0; same_as_old = 0; same_as_trusted = 0; left_out = 0; others = 0 }
      → work < 2 ^ 62 → AreLinesBelow a (2 ^ 62 - work)
  small_start a work is less = search rules

  -- ---- the lines

  pub lines_of_sought : (leaves : Leaves) (cs trusted : List PathChange)
      → accounted_lines options (all_sought leaves cs trusted) ≡ change_lines options (sought_by leaves trusted) cs
  unfolding change_lines listed_line change_line
  lines_of_sought leaves [] trusted = refl
  lines_of_sought leaves (c ∷ cs) trusted =
      ap (λ l. accounted_line options (c, sought_by leaves trusted c) ++ l) (lines_of_sought leaves cs trusted) ∙ by_test
      (is_in options all_listed c)
    where
      by_test : (b : Bool) → (cond b (change_line options (sought_by leaves trusted) c) []) ++ flat_map
          (change_line options (sought_by leaves trusted))
          (listed_changes options cs)
          ≡ flat_map (change_line options (sought_by leaves trusted)) (cond b (c ∷ listed_changes options cs) (listed_changes options cs))
      by_test true = refl
      by_test false = refl

  -- an entry that both databases have alike has none
  pub line_alike : (entry : Entry) (account : Option Account) → accounted_line options (alike_of entry, account) ≡ []
  unfolding listed_line
  line_alike entry account = ap (λ b. cond b (change_line options (λ c. account) (alike_of entry)) []) (in_none options all_listed entry)

  -- ---- one more behind those that were counted

  pub tally_behind : (ms ns : List Accounted)
      → sum_of_counts (tally_of options ms) (tally_of options ns) ≡ tally_of options (ms ++ ns)
  tally_behind ms ns = search (rules, counted_behind, differs)

  pub tally_next : (a b : LineCounts) (ms : List Accounted) (m : Accounted) → a ≡ tally_of options ms
      → b ≡ sum_of_counts a (tally_of options (m ∷ [])) → b ≡ tally_of options (ms ++ m ∷ [])
  tally_next a b ms m counted grows =
      grows ∙ ap (λ (c : LineCounts). sum_of_counts c (tally_of options (m ∷ []))) counted ∙ tally_behind ms (m ∷ [])

  pub lines_next : (ms : List Accounted) (m : Accounted)
      → accounted_lines options ms ++ accounted_line options m ≡ accounted_lines options (ms ++ m ∷ [])
  lines_next ms m = sym (flat_map-append (accounted_line options) ms (m ∷ [])
      ∙ ap (λ l. accounted_lines options ms ++ l) (append-nil (accounted_line options m)))

  -- ---- as many accounts as lines, and no line if none is counted

  sum_accounted : (a b : LineCounts) → account_count a ≡ entry_count a → account_count b ≡ entry_count b
      → account_count (sum_of_counts a b) ≡ entry_count (sum_of_counts a b)
  sum_accounted a b is also = omega (arith, is, also)

  one_accounted : (m : Accounted) → account_count (tally_of options (m ∷ [])) ≡ entry_count (tally_of options (m ∷ []))
  one_accounted m = tally_accounted options (λ any. m.1) (m.0 ∷ [])

  pub all_accounted : (ms : List Accounted) → account_count (tally_of options ms) ≡ entry_count (tally_of options ms)
  all_accounted [] = refl
  all_accounted (m ∷ ms) =
      let split = tally_behind (m ∷ []) ms in
      ap account_count (sym split)
      ∙ sum_accounted (tally_of options (m ∷ [])) (tally_of options ms) (one_accounted m) (all_accounted ms) ∙ ap entry_count split

  none_of_both : (a b : LineCounts) → entry_count (sum_of_counts a b) ≡ 0 → (entry_count a ≡ 0) × (entry_count b ≡ 0)
  none_of_both a b none = (omega (arith, none), omega (arith, none))

  one_alone : (m : Accounted) → entry_count (tally_of options (m ∷ [])) ≡ 0 → accounted_line options m ≡ []
  one_alone m none = lines_one options (λ any. m.1) m.0 ∙ tally_alone options (λ any. m.1) (m.0 ∷ []) none

  pub all_alone : (ms : List Accounted) → entry_count (tally_of options ms) ≡ 0 → accounted_lines options ms ≡ []
  all_alone [] none = refl
  all_alone (m ∷ ms) none =
      let both = none_of_both (tally_of options (m ∷ [])) (tally_of options ms) (ap entry_count (tally_behind (m ∷ []) ms) ∙ none) in
      λ i. one_alone m both.0 i ++ all_alone ms both.1 i
