-- What a list changes of what accounts for changes, and what it never does.
use Rattle.std.proofs.Common.{◌≡◌, ◌∙◌, ◌<◌, ◌^◌, ◌++◌, List, None, Option, Some, [], ap, refl, rules, sym, ℕ}
use Rattle.std.specs.Prelude.{Bool, true, false, ⊤, if◌then◌else◌, decimal, option_and_then, option_map}
use Rattle.std.proofs.lemmas.Fmt.{decimal_injective}
use Rattle.json.specs.Json.{number}
use Rattle.aide_json.specs.Number.{is_exact}
use Rattle.std.specs.FinMap.{get}
use Rattle.aide_agreement.specs.Account.{Pair, same_as}
use Rattle.aide_agreement.specs.declared.account.SameAs.{SameAs}
use Rattle.aide_db.specs.Map.{database_of}
use Rattle.aide_left_out.specs.Meaning.{GivesRight}
use Rattle.aide_left_out.proofs.Laws.{longer_leaves_out, nothing_left_out, rights_stay}
use Rattle.aide_line_text.specs.declared.account.Account.{Account}
use Rattle.aide_line_text.specs.declared.account.Account.TheVariants.{LeftOut, Old, Trusted}
use Rattle.aide_patterns.specs.Line.{RuleText}
use Rattle.aide_line_run.specs.ChangeLines.{Accounts}
use Rattle.aide_merge.specs.Said.{PathChange}
use Rattle.aide_line_run.specs.Lines.{by_texts, by_trusted, lines_of_texts}
use Rattle.aide_line_run.specs.Listed.{ListRead, account_by, leaves_between, measures_between}
use Rattle.aide_merge.specs.Asked.{Asked}
use Rattle.aide_json.specs.Number.{count, is_exact}
use Rattle.aide_json.specs.Value.{number, word}
use Rattle.aide_line_laws.specs.Field.{Field, json_of}
use Rattle.aide_line_laws.specs.Reading.{SaysAccount, line_number, same_word}

-- what accounts for the changes of two texts by the trusted texts alone, without a list
abbrev pub by_pairs : (trusted_old trusted_new : List ℕ) → Accounts
by_pairs trusted_old trusted_new =
    by_trusted (λ change. None) (database_of trusted_old) (database_of trusted_new)

kept_by : (found : Option SameAs) (line : Option ℕ) (account : Account) → account_by found None ≡ Some account
    → account_by found line ≡ Some account
kept_by None line account e = cc
kept_by (Some one) line account e = e

longer_by : (found : Option SameAs) (line other : Option ℕ) (account : Account)
    → ((n : ℕ) → line ≡ Some n → other ≡ Some n) → account_by found line ≡ Some account
    → account_by found other ≡ Some account
longer_by (Some one) line other account longer e = e
longer_by None None other account longer e = cc
longer_by None (Some n) other account longer e = ap (option_map LeftOut) (longer n refl) ∙ e

module _ (list : ListRead) (old new trusted_old trusted_new : List ℕ) where
  -- what the trusted texts have at the path of a change
  abbrev there : PathChange → Pair
  there change = (get (database_of trusted_old) change.0, get (database_of trusted_new) change.0)

  -- What the old entry or a trusted machine accounts for, they account for with any list.
  pub entries_come_first : (change : PathChange) (account : Account)
      → by_pairs trusted_old trusted_new change ≡ Some account
      → by_texts list old new trusted_old trusted_new change ≡ Some account
  entries_come_first change account e =
      kept_by (same_as change.1 (there change)) (leaves_between list old new change) account e

  -- What may give somebody a right is left out by no list: what accounts for it is what does without a list.
  pub rights_are_told : (change : PathChange) → GivesRight (measures_between old new) change.0 change.1
      → by_texts list old new trusted_old trusted_new change ≡ by_pairs trusted_old trusted_new change
  rights_are_told change right =
      ap (account_by (same_as change.1 (there change))) (rights_stay list.rules (measures_between old new) change.0 change.1 right)

  -- A list without rules leaves nothing out: what accounts for each change is what does without a list.
  pub empty_list_is_none : list.rules ≡ [] → by_texts list old new trusted_old trusted_new ≡ by_pairs trusted_old trusted_new
  empty_list_is_none empty = λ i change.
      account_by (same_as change.1 (there change))
      (nothing_left_out list.rules (measures_between old new) change.0 change.1 empty i)

  -- What accounts for a change with a list does so with a list that has more rules behind: the same entry, or the same line.
  pub longer_list_keeps : (longer : ListRead) (more : List RuleText) → longer.rules ≡ list.rules ++ more
      → (change : PathChange) (account : Account) → by_texts list old new trusted_old trusted_new change ≡ Some account
      → by_texts longer old new trusted_old trusted_new change ≡ Some account
  longer_list_keeps longer more rules change account e = search (rules, longer_by, there, longer_leaves_out)

  -- The outcome, and with it the status, never depends on the list.
  pub outcome_is_without_list : (other : ListRead) (asked trusted : Asked)
      → (lines_of_texts list asked trusted old new trusted_old trusted_new).outcome
      ≡ (lines_of_texts other asked trusted old new trusted_old trusted_new).outcome
  unfolding lines_of_texts
  outcome_is_without_list other asked trusted = refl

-- ---- one account for each line

-- the line of a list has a number that the program can hold
abbrev IsHeld : Option Account → Type 0
IsHeld (Some (LeftOut n)) = n < 2 ^ 64
IsHeld _ = ⊤

same_number : (m n : ℕ) → m < 2 ^ 64 → n < 2 ^ 64 → Some (json_of (count m)) ≡ Some (json_of (count n)) → m ≡ n
same_number m n h k e = decimal_injective m n h k (digits_same (is_exact m) (is_exact n) e)
  where
    digits_same : (a b : Bool) → Some (json_of (if a then number (decimal m) else word (decimal m)))
        ≡ Some (json_of (if b then number (decimal n) else word (decimal n))) → decimal m ≡ decimal n
    digits_same true true e = cc e
    digits_same true false e = cc e
    digits_same false true e = cc e
    digits_same false false e = cc e

-- A line says one account: a reader cannot take it for another.
pub one_account : (a b : Option Account) (fields : List Field) → SaysAccount a fields → SaysAccount b fields → IsHeld a
    → IsHeld b → a ≡ b
one_account a b fields h k l m = alike a b l m (sym h.same_as ∙ k.same_as) (sym h.left_out ∙ k.left_out)
  where
    alike : (a b : Option Account) → IsHeld a → IsHeld b → option_and_then same_word a ≡ option_and_then same_word b
        → option_and_then line_number a ≡ option_and_then line_number b → a ≡ b
    alike None None l m e f = refl
    alike None (Some Old) l m e f = cc e
    alike None (Some Trusted) l m e f = cc e
    alike None (Some (LeftOut n)) l m e f = cc f
    alike (Some Old) None l m e f = cc e
    alike (Some Old) (Some Old) l m e f = refl
    alike (Some Old) (Some Trusted) l m e f = cc e
    alike (Some Old) (Some (LeftOut n)) l m e f = cc e
    alike (Some Trusted) None l m e f = cc e
    alike (Some Trusted) (Some Old) l m e f = cc e
    alike (Some Trusted) (Some Trusted) l m e f = refl
    alike (Some Trusted) (Some (LeftOut n)) l m e f = cc e
    alike (Some (LeftOut n)) None l m e f = cc f
    alike (Some (LeftOut n)) (Some Old) l m e f = cc f
    alike (Some (LeftOut n)) (Some Trusted) l m e f = cc f
    alike (Some (LeftOut n)) (Some (LeftOut o)) l m e f = ap (λ x. Some (LeftOut x)) (same_number n o l m f)
