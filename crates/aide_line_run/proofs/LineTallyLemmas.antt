-- The numbers of the last line, one change after another.
use Rattle.std.proofs.Common.{◌≡◌, ℕ, ◌+◌, ◌∙◌, Bool, true, false, refl, sym, ap, List, [], ◌∷◌, ◌++◌}
use Rattle.std.proofs.Common.{arith, length}
use Rattle.std.specs.Prelude.{count_by, cond, ◌&&◌, ◌||◌, Option, Some, None}
use Rattle.std.specs.List.{flat_map}
use Rattle.std.proofs.lemmas.List.Sums.{length-filter, sum_by-append}
use Rattle.aide_line_text.specs.declared.account.Account.{Account}
use Rattle.aide_line_text.specs.declared.account.Account.TheVariants.{LeftOut, Old, Trusted}
use Rattle.aide_conf.specs.declared.options.Options.{Options}
use Rattle.aide_fields.specs.Attributes.{Entry}
use Rattle.aide_line_text.specs.declared.counts.LineCounts.{LineCounts}
use Rattle.aide_line_run.specs.ChangeLines.{Accounts, change_line, change_lines, listed_changes}
use Rattle.aide_merge.specs.Changed.{differ_by}
use Rattle.aide_merge.specs.Changes.{is_added, is_removed, is_changed, is_of_new}
use Rattle.aide_merge.specs.Said.{PathChange}
use Rattle.aide_line_run.specs.LineCounts.{account_count, entry_count, is_left_out, is_line_with}
use Rattle.aide_line_run.specs.LineCounts.{is_old, is_other, is_trusted}
use Rattle.aide_merge.specs.Said.{all_listed, is_in}
use Rattle.aide_merge.specs.code.ChangeView.{alike_of}
use Rattle.aide_line_run.specs.code.LineTally.{sum_of_counts, tally, with_account, with_entry}
use Rattle.aide_line_run.specs.code.LineTally.{with_kind}
use Rattle.aide_merge.proofs.SameEntries.{in_none}
use Rattle.aide_merge.proofs.Laws.{first_counted}

-- ---- one more change

counted_more : (p : PathChange → Bool) (done : List PathChange) (change : PathChange)
    → count_by p (done ++ change ∷ []) ≡ count_by p done + count_by p (change ∷ [])
counted_more p done change = sum_by-append (λ x. cond (p x) 1 0) done (change ∷ [])

same_count : (p : PathChange → Bool) (change : PathChange) (a : ℕ) → p change ≡ false → a ≡ a + count_by p (change ∷ [])
same_count p change a is = rw is (omega arith)

one_count : (p : PathChange → Bool) (change : PathChange) (a : ℕ) → p change ≡ true → a + 1 ≡ a + count_by p (change ∷ [])
one_count p change a is = rw is (omega arith)

module _ (options : Options) (account : Accounts) where
  abbrev differs : PathChange → Bool
  differs = is_changed (differ_by options.ignore)

  abbrev line_with : (Option Account → Bool) → PathChange → Bool
  line_with = is_line_with options account

  pub tally_more : (done : List PathChange) (change : PathChange)
      → sum_of_counts (tally options account done) (tally options account (change ∷ []))
      ≡ tally options account (done ++ change ∷ [])
  tally_more done change = sym (λ i. record {
    total = counted_more is_of_new done change i;
    added = counted_more is_added done change i;
    removed = counted_more is_removed done change i;
    changed = counted_more differs done change i;
    same_as_old = counted_more (line_with is_old) done change i;
    same_as_trusted = counted_more (line_with is_trusted) done change i;
    left_out = counted_more (line_with is_left_out) done change i;
    others = counted_more (line_with is_other) done change i;
  })

  -- ---- a change that has no line

  no_account : (passes : Option Account → Bool) (change : PathChange) → is_in options all_listed change ≡ false
      → line_with passes change ≡ false
  no_account passes change out = ap (λ b. b && passes (account change)) out

  -- it is counted in the total, if it is of the new database
  pub unlisted : (c : LineCounts) (change : PathChange) → is_in options all_listed change ≡ false
      → with_entry c change.1 ≡ sum_of_counts c (tally options account (change ∷ []))
  unlisted c (path, (None, Some new)) out = cc
  unlisted c (path, (Some old, None)) out = cc
  unlisted c (path, (None, None)) out = λ i. let change : PathChange = (path, (None, None)) in record {
    total = same_count is_of_new change c.total refl i;
    added = same_count is_added change c.added refl i;
    removed = same_count is_removed change c.removed refl i;
    changed = same_count differs change c.changed refl i;
    same_as_old = same_count (line_with is_old) change c.same_as_old refl i;
    same_as_trusted = same_count (line_with is_trusted) change c.same_as_trusted refl i;
    left_out = same_count (line_with is_left_out) change c.left_out refl i;
    others = same_count (line_with is_other) change c.others refl i;
  }
  unlisted c (path, (Some old, Some new)) out = λ i. let change : PathChange = (path, (Some old, Some new)) in record {
    total = one_count is_of_new change c.total refl i;
    added = same_count is_added change c.added refl i;
    removed = same_count is_removed change c.removed refl i;
    changed = same_count differs change c.changed out i;
    same_as_old = same_count (line_with is_old) change c.same_as_old (no_account is_old change out) i;
    same_as_trusted = same_count (line_with is_trusted) change c.same_as_trusted (no_account is_trusted change out) i;
    left_out = same_count (line_with is_left_out) change c.left_out (no_account is_left_out change out) i;
    others = same_count (line_with is_other) change c.others (no_account is_other change out) i;
  }

  -- so is an entry that both databases have alike
  pub alike : (c : LineCounts) (entry : Entry)
      → record c { total = c.total + 1 } ≡ sum_of_counts c (tally options account (alike_of entry ∷ []))
  alike c entry = unlisted c (alike_of entry) (in_none options all_listed entry)

  -- ---- a change that has a line

  by_account : (passes : Option Account → Bool) (change : PathChange) (answer : Bool) → is_in options all_listed change ≡ true
      → passes (account change) ≡ answer → line_with passes change ≡ answer
  by_account passes change answer is e = ap (λ b. b && passes (account change)) is ∙ e

  accounted : (a : Option Account) (c : LineCounts) (change : PathChange) → is_in options all_listed change ≡ true → account change ≡ a
      → with_account c a ≡ record c {
        same_as_old = c.same_as_old + count_by (line_with is_old) (change ∷ []);
        same_as_trusted = c.same_as_trusted + count_by (line_with is_trusted) (change ∷ []);
        left_out = c.left_out + count_by (line_with is_left_out) (change ∷ []);
        others = c.others + count_by (line_with is_other) (change ∷ []);
      }
  accounted (Some Old) c change is e = λ i. record c {
    same_as_old = one_count (line_with is_old) change c.same_as_old (by_account is_old change true is (ap is_old e)) i;
    same_as_trusted = same_count (line_with is_trusted) change c.same_as_trusted (by_account is_trusted change false is (ap is_trusted e))
        i;
    left_out = same_count (line_with is_left_out) change c.left_out (by_account is_left_out change false is (ap is_left_out e)) i;
    others = same_count (line_with is_other) change c.others (by_account is_other change false is (ap is_other e)) i;
  }
  accounted (Some Trusted) c change is e = λ i. record c {
    same_as_old = same_count (line_with is_old) change c.same_as_old (by_account is_old change false is (ap is_old e)) i;
    same_as_trusted = one_count (line_with is_trusted) change c.same_as_trusted (by_account is_trusted change true is (ap is_trusted e)) i;
    left_out = same_count (line_with is_left_out) change c.left_out (by_account is_left_out change false is (ap is_left_out e)) i;
    others = same_count (line_with is_other) change c.others (by_account is_other change false is (ap is_other e)) i;
  }
  accounted (Some (LeftOut number)) c change is e = λ i. record c {
    same_as_old = same_count (line_with is_old) change c.same_as_old (by_account is_old change false is (ap is_old e)) i;
    same_as_trusted = same_count (line_with is_trusted) change c.same_as_trusted (by_account is_trusted change false is (ap is_trusted e))
        i;
    left_out = one_count (line_with is_left_out) change c.left_out (by_account is_left_out change true is (ap is_left_out e)) i;
    others = same_count (line_with is_other) change c.others (by_account is_other change false is (ap is_other e)) i;
  }
  accounted None c change is e = λ i. record c {
    same_as_old = same_count (line_with is_old) change c.same_as_old (by_account is_old change false is (ap is_old e)) i;
    same_as_trusted = same_count (line_with is_trusted) change c.same_as_trusted (by_account is_trusted change false is (ap is_trusted e))
        i;
    left_out = same_count (line_with is_left_out) change c.left_out (by_account is_left_out change false is (ap is_left_out e)) i;
    others = one_count (line_with is_other) change c.others (by_account is_other change true is (ap is_other e)) i;
  }

  kinds : (c : LineCounts) (change : PathChange) → is_in options all_listed change ≡ true
      → with_kind (with_entry c change.1) change.1 ≡ record c {
        total = c.total + count_by is_of_new (change ∷ []);
        added = c.added + count_by is_added (change ∷ []);
        removed = c.removed + count_by is_removed (change ∷ []);
        changed = c.changed + count_by differs (change ∷ []);
      }
  kinds c (path, (None, None)) is = cc
  kinds c (path, (None, Some new)) is = λ i. let change : PathChange = (path, (None, Some new)) in record c {
    total = one_count is_of_new change c.total refl i;
    added = one_count is_added change c.added refl i;
    removed = same_count is_removed change c.removed refl i;
    changed = same_count differs change c.changed refl i;
  }
  kinds c (path, (Some old, None)) is = λ i. let change : PathChange = (path, (Some old, None)) in record c {
    total = same_count is_of_new change c.total refl i;
    added = same_count is_added change c.added refl i;
    removed = one_count is_removed change c.removed refl i;
    changed = same_count differs change c.changed refl i;
  }
  kinds c (path, (Some old, Some new)) is = λ i. let change : PathChange = (path, (Some old, Some new)) in record c {
    total = one_count is_of_new change c.total refl i;
    added = same_count is_added change c.added refl i;
    removed = same_count is_removed change c.removed refl i;
    changed = one_count differs change c.changed is i;
  }

  pub listed : (c : LineCounts) (change : PathChange) → is_in options all_listed change ≡ true
      → with_account (with_kind (with_entry c change.1) change.1) (account change)
      ≡ sum_of_counts c (tally options account (change ∷ []))
  listed c change is =
      ap (λ counts. with_account counts (account change)) (kinds c change is) ∙ accounted (account change) _ change is refl

  -- ---- each line is of one kind, and one thing accounts for its change, or nothing

  one_kind : (change : PathChange) → cond (is_in options all_listed change) 1 0
      ≡ cond (is_added change) 1 0 + (cond (is_removed change) 1 0 + cond (differs change) 1 0)
  one_kind (path, (None, None)) = refl
  one_kind (path, (None, Some new)) = refl
  one_kind (path, (Some old, None)) = refl
  one_kind (path, (Some old, Some new)) = by_differ (differ_by options.ignore old new)
    where
      by_differ : (b : Bool) → cond (false || (false || b)) 1 0 ≡ 0 + (0 + cond b 1 0)
      by_differ true = refl
      by_differ false = refl

  pub all_kinds : (entries : List PathChange) → count_by (is_in options all_listed) entries
      ≡ count_by is_added entries + (count_by is_removed entries + count_by differs entries)
  all_kinds [] = refl
  all_kinds (entry ∷ more) = omega (
    arith,
    one_kind entry,
    all_kinds more,
    first_counted (is_in options all_listed) entry more,
    first_counted is_added entry more,
    first_counted is_removed entry more,
    first_counted differs entry more,
  )

  one_account : (b : Bool) (a : Option Account) → cond b 1 0
      ≡ cond (b && is_old a) 1 0
      + (cond (b && is_trusted a) 1 0 + (cond (b && is_left_out a) 1 0 + cond (b && is_other a) 1 0))
  one_account false a = refl
  one_account true None = refl
  one_account true (Some Old) = refl
  one_account true (Some Trusted) = refl
  one_account true (Some (LeftOut number)) = refl

  pub all_accounts : (entries : List PathChange) → count_by (is_in options all_listed) entries
      ≡ count_by (line_with is_old) entries
      + (count_by (line_with is_trusted) entries
      + (count_by (line_with is_left_out) entries + count_by (line_with is_other) entries))
  all_accounts [] = refl
  all_accounts (entry ∷ more) = omega (
    arith,
    one_account (is_in options all_listed entry) (account entry),
    all_accounts more,
    first_counted (is_in options all_listed) entry more,
    first_counted (line_with is_old) entry more,
    first_counted (line_with is_trusted) entry more,
    first_counted (line_with is_left_out) entry more,
    first_counted (line_with is_other) entry more,
  )

  pub tally_accounted : (done : List PathChange)
      → account_count (tally options account done) ≡ entry_count (tally options account done)
  tally_accounted done = sym (all_accounts done) ∙ all_kinds done

  none_long : (xs : List PathChange) → length xs ≡ 0 → xs ≡ []
  none_long [] e = refl
  none_long (x ∷ xs) e = cc

  -- where none is counted there is no line
  pub tally_alone : (done : List PathChange) → entry_count (tally options account done) ≡ 0
      → change_lines options account done ≡ []
  unfolding change_lines
  tally_alone done none =
      ap (flat_map (change_line options account))
      (none_long (listed_changes options done) (length-filter (is_in options all_listed) done ∙ all_kinds done ∙ none))
