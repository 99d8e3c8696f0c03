-- A section that is asked for is there exactly if it has an entry.
use Rattle.std.proofs.Common.{◌≡◌, ◌∙◌, ℕ, ◌+◌, Bool, true, false, cond, List, [], ◌∷◌, refl, sym, ap, arith, length}
use Rattle.std.specs.Prelude.{count_by, ◌==◌, ◌||◌, ◌&&◌, not}
use Rattle.std.specs.List.{list_any}
use Rattle.aide_conf.specs.declared.options.Options.{Options}
use Rattle.aide_fields.proofs.PathLaws.{path_cmp_total, path_cmp-IsAntisymmetric}
use Rattle.aide_db.specs.Map.{Database}
use Rattle.aide_fields.specs.Path.{path_cmp}
use Rattle.aide_merge.specs.Changed.{differ_by}
use Rattle.aide_merge.specs.Changes.{is_added, is_removed, is_changed}
use Rattle.aide_merge.specs.Compare.{changes, added, removed, changed}
use Rattle.aide_merge.specs.Said.{is_shown_entry, is_in}
use Rattle.aide_merge.specs.Outcomes.{counts_of}
use Rattle.aide_report_specs.specs.Sections.{has_entry, is_there}
use Rattle.aide_text.specs.declared.section.Section.{Section}
use Rattle.aide_text.specs.declared.section.Contents.{Contents}
use Rattle.aide_text.specs.declared.section.Contents.TheVariants.{Listed, Detailed}
use Rattle.aide_text.specs.Section.{contents_of, is_asked}
use Rattle.aide_merge.proofs.Laws.{added_count, removed_count, changed_count, first_counted}

none_more : (n : ℕ) → 0 + n ≡ n
none_more n = omega arith

one_more : (n : ℕ) → not ((1 + n) == 0) ≡ true
one_more n = grind arith

more_counted : (b : Bool) (n : ℕ) (rest : Bool) → not (n == 0) ≡ rest → not ((cond b 1 0 + n) == 0) ≡ (b || rest)
more_counted true n rest e = one_more n
more_counted false n rest e = ap (λ k. not (k == 0)) (none_more n) ∙ e

-- a count is not nought exactly where the test holds of some item
some_counted : {X : Type 0} (p : X → Bool) (xs : List X) → not (count_by p xs == 0) ≡ list_any p xs
some_counted p [] = refl
some_counted p (x ∷ xs) =
    ap (λ k. not (k == 0)) (first_counted p x xs) ∙ more_counted (p x) (count_by p xs) (list_any p xs) (some_counted p xs)

either_item : (a b c d : Bool) → (a || b) || (c || d) ≡ (a || c) || (b || d)
either_item true b c d = refl
either_item false true true d = refl
either_item false true false d = refl
either_item false false c d = refl

-- some item passes either test exactly where some item passes the one, or some item the other
any_either : {X : Type 0} (p q : X → Bool) (xs : List X)
    → list_any (λ x. p x || q x) xs ≡ list_any p xs || list_any q xs
any_either p q [] = refl
any_either p q (x ∷ xs) =
    ap (λ b. (p x || q x) || b) (any_either p q xs) ∙ either_item (p x) (q x) (list_any p xs) (list_any q xs)

any_none : {X : Type 0} (xs : List X) → false ≡ list_any (λ x. false) xs
any_none [] = refl
any_none (x ∷ xs) = any_none xs

-- a kind that is listed, and one that is not
any_kind : {X : Type 0} (b : Bool) (p : X → Bool) (xs : List X) → b && list_any p xs ≡ list_any (λ x. b && p x) xs
any_kind true p xs = refl
any_kind false p xs = any_none xs

module _ (options : Options) (old new : Database) where
  some_added : not (length (added old new) == 0) ≡ list_any is_added (changes old new)
  some_added = ap (λ n. not (n == 0)) (sym (added_count path_cmp path_cmp_total path_cmp-IsAntisymmetric old new))
      ∙ some_counted is_added (changes old new)

  some_removed : not (length (removed old new) == 0) ≡ list_any is_removed (changes old new)
  some_removed = ap (λ n. not (n == 0)) (sym (removed_count path_cmp path_cmp_total path_cmp-IsAntisymmetric old new))
      ∙ some_counted is_removed (changes old new)

  some_changed : not (length (changed (differ_by options.ignore) old new) == 0)
      ≡ list_any (is_changed (differ_by options.ignore)) (changes old new)
  some_changed = ap (λ n. not (n == 0)) (sym (changed_count path_cmp path_cmp_total
      (differ_by options.ignore) path_cmp-IsAntisymmetric old new))
      ∙ some_counted (is_changed (differ_by options.ignore)) (changes old new)

  listed_law : (added removed changed : Bool)
      → has_entry (counts_of options old new) (Listed added removed changed)
      ≡ list_any (is_in options (Listed added removed changed)) (changes old new)
  listed_law added removed changed =
      let all = changes old new in
      let differs = is_changed (differ_by options.ignore) in
      (λ i. (added && some_added i) || ((removed && some_removed i) || (changed && some_changed i)))
      ∙ (λ i. any_kind added is_added all i || (any_kind removed is_removed all i || any_kind changed differs all i))
      ∙ ap (λ b. list_any (λ x. added && is_added x) all || b)
      (sym (any_either (λ x. removed && is_removed x) (λ x. changed && differs x) all))
      ∙ sym (any_either (λ x. added && is_added x) (λ x. (removed && is_removed x) || (changed && differs x)) all)

  -- contents have an entry exactly where some change is in them
  pub has_entry_law : (contents : Contents)
      → has_entry (counts_of options old new) contents ≡ list_any (is_in options contents) (changes old new)
  has_entry_law (Listed added removed changed) = listed_law added removed changed
  has_entry_law Detailed = some_counted (is_shown_entry options) (changes old new)

  -- so a section is there exactly where it is asked for and some change is in it
  pub is_there_law : (section : Section) → is_there options (counts_of options old new) section
      ≡ is_asked options.level options.grouped section && list_any (is_in options (contents_of section)) (changes old new)
  is_there_law section =
      ap (λ b. is_asked options.level options.grouped section && b) (has_entry_law (contents_of section))
