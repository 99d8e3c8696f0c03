-- Counts, one change after another.
use Rattle.std.proofs.Common.{◌≡◌, ℕ, ◌+◌, ◌-◌, ◌<◌, ◌≤◌, Bool, false, refl, List, [], ◌∷◌, ◌++◌, ap, ◌∙◌, arith, rules}
use Rattle.std.specs.Prelude.{count_by, cond}
use Rattle.std.proofs.lemmas.List.Sums.{count_by-le-length, sum_by-append}
use Rattle.aide_conf.specs.declared.options.Options.{Options}
use Rattle.aide_fields.specs.Attributes.{Attributes, Entry}
use Rattle.aide_merge.specs.code.ChangeView.{alike_of}
use Rattle.aide_merge.specs.Changed.{differ_by}
use Rattle.aide_merge.specs.Changes.{is_added, is_removed, is_changed, is_of_new}
use Rattle.aide_merge.specs.Compare.{Change as Sided}
use Rattle.aide_report.specs.code.Counts.{Completes, AreBelow}
use Rattle.aide_merge.specs.Said.{is_shown_entry}
use Rattle.aide_merge.proofs.SameEntries.{never_differs, shows_nothing}
use Rattle.aide_text.specs.declared.counts.Counts.{Counts}

abbrev Change : Type 0
Change = Sided (List ℕ) Attributes

one_more : (p : Change → Bool) (change : Change) (a b : ℕ) (rest more all : List Change)
    → rest ≡ (change ∷ []) ++ more → b ≡ a + count_by p (change ∷ []) → a + count_by p rest ≡ count_by p all
    → b + count_by p more ≡ count_by p all
one_more p change a b rest more all is grows so_far =
    omega (arith, ap (count_by p) is, sum_by-append (λ x. cond (p x) 1 0) (change ∷ []) more)

pub counts_more : (options : Options) (a b : Counts) (change : Change) (rest changes more all : List Change)
    → rest ≡ changes ++ more → changes ≡ change ∷ []
    → b.added ≡ a.added + count_by is_added (change ∷ [])
    → b.removed ≡ a.removed + count_by is_removed (change ∷ [])
    → b.changed ≡ a.changed + count_by (is_changed (differ_by options.ignore)) (change ∷ [])
    → b.total ≡ a.total + count_by is_of_new (change ∷ [])
    → b.shown ≡ a.shown + count_by (is_shown_entry options) (change ∷ [])
    → Completes options a rest all → Completes options b more all
counts_more options a b change rest changes more all is one e f g h s so_far =
    let step : rest ≡ (change ∷ []) ++ more = is ∙ ap (λ cs. cs ++ more) one in
    record {
      added = one_more is_added change a.added b.added rest more all step e so_far.added;
      removed = one_more is_removed change a.removed b.removed rest more all step f so_far.removed;
      changed = one_more (is_changed (differ_by options.ignore)) change a.changed b.changed rest more all step g so_far.changed;
      total = one_more is_of_new change a.total b.total rest more all step h so_far.total;
      shown = one_more (is_shown_entry options) change a.shown b.shown rest more all step s so_far.shown;
    }

at_most_one : (p : Change → Bool) (change : Change) → count_by p (change ∷ []) ≤ 1
at_most_one p change = count_by-le-length p (change ∷ [])

small_one : (p : Change → Bool) (change : Change) (a b top m n : ℕ) → n < m → b ≡ a + count_by p (change ∷ [])
    → a < top - m → b < top - n
small_one p change a b top m n less grows small = omega (arith, at_most_one p change)

pub small_more : (options : Options) (a b : Counts) (change : Change) (top m n : ℕ)
    → n < m
    → b.added ≡ a.added + count_by is_added (change ∷ [])
    → b.removed ≡ a.removed + count_by is_removed (change ∷ [])
    → b.changed ≡ a.changed + count_by (is_changed (differ_by options.ignore)) (change ∷ [])
    → b.total ≡ a.total + count_by is_of_new (change ∷ [])
    → b.shown ≡ a.shown + count_by (is_shown_entry options) (change ∷ [])
    → AreBelow a (top - m) → AreBelow b (top - n)
small_more options a b change top m n less e f g h s small = search (rules, small_one)

-- ---- an entry that both sides have alike is counted only in the total

same_count : (p : Change → Bool) (change : Change) (a : ℕ) → p change ≡ false → a ≡ a + count_by p (change ∷ [])
same_count p change a none = rw none (omega arith)

pub counts_alike : (options : Options) (a b : Counts) (entry : Entry) (rest changes more all : List Change)
    → rest ≡ changes ++ more → changes ≡ alike_of entry ∷ [] → b ≡ record a { total = a.total + 1 }
    → Completes options a rest all → Completes options b more all
counts_alike options a b entry rest changes more all is one counted so_far =
    rw counted (counts_more options a (record a { total = a.total + 1 }) (alike_of entry) rest changes more all is one
    (same_count is_added (alike_of entry) a.added refl)
    (same_count is_removed (alike_of entry) a.removed refl)
    (same_count (is_changed (differ_by options.ignore)) (alike_of entry) a.changed (never_differs options.ignore entry.1 entry.1 refl))
    (omega arith)
    (same_count (is_shown_entry options) (alike_of entry) a.shown (shows_nothing options entry.1)) so_far)

pub small_alike : (a b : Counts) (top m n : ℕ) → n < m → b ≡ record a { total = a.total + 1 }
    → AreBelow a (top - m) → AreBelow b (top - n)
small_alike a b top m n less counted small = search rules
