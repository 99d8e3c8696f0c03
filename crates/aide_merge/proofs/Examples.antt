-- The definitions, computed on small inputs.
use Rattle.std.specs.Prelude.{◌≡◌, ℕ, Bool, not, ◌==◌, List, [], ◌∷◌, Some, None, codes}
use Rattle.std.proofs.Common.{refl, sym, ap, ◌∙◌}
use Rattle.std.specs.Cmp.{nat_cmp_total}
use Rattle.std.specs.FinMap.{FinMap, from_sorted, entries-from_sorted, nat_cmp-IsAntisymmetric}
use Rattle.std.specs.Ordering.{nat_cmp}
use Rattle.aide_merge.specs.Changes.{is_added, is_removed, is_changed}
use Rattle.aide_merge.specs.Compare.{Change, changes, added, removed, changed}
use Rattle.aide_merge.specs.Merged.{merged}
use Rattle.aide_text.specs.Printed.{printed}
use Rattle.aide_text.specs.Overview.{head_of, databases_differ}
use Rattle.aide_merge.specs.Outcomes.{status_of}
use Rattle.aide_merge.proofs.Laws.{keys_by, added_law, removed_law, changed_law}
use Rattle.aide_merge.proofs.MergeLemmas.{changes-merged}

-- ---- two maps side by side

olds : FinMap nat_cmp ℕ
olds = from_sorted ((2, 10) ∷ (3, 10) ∷ (4, 10) ∷ [])

news : FinMap nat_cmp ℕ
news = from_sorted ((1, 10) ∷ (3, 20) ∷ (4, 10) ∷ [])

abbrev differ : ℕ → ℕ → Bool
differ x y = not (x == y)

abbrev whole : List (Change ℕ ℕ)
whole = (1, (None, Some 10)) ∷ (2, (Some 10, None)) ∷ (3, (Some 10, Some 20)) ∷ (4, (Some 10, Some 10)) ∷ []

all_changes : changes olds news ≡ whole
unfolding olds news
all_changes = changes-merged nat_cmp nat_cmp_total nat_cmp-IsAntisymmetric olds news
    ∙ (λ i. merged nat_cmp (entries-from_sorted nat_cmp ((2, 10) ∷ (3, 10) ∷ (4, 10) ∷ []) tt i)
    (entries-from_sorted nat_cmp ((1, 10) ∷ (3, 20) ∷ (4, 10) ∷ []) tt i))

added_keys : added olds news ≡ 1 ∷ []
added_keys = sym (added_law nat_cmp nat_cmp_total nat_cmp-IsAntisymmetric olds news) ∙ ap (keys_by is_added) all_changes

removed_keys : removed olds news ≡ 2 ∷ []
removed_keys =
    sym (removed_law nat_cmp nat_cmp_total nat_cmp-IsAntisymmetric olds news) ∙ ap (keys_by is_removed) all_changes

changed_keys : changed differ olds news ≡ 3 ∷ []
changed_keys =
    sym (changed_law nat_cmp nat_cmp_total differ nat_cmp-IsAntisymmetric olds news) ∙ ap (keys_by (is_changed differ)) all_changes

-- ---- the report and the status

some_differ : head_of (databases_differ 0 1 0) ≡ codes "AIDE found differences between the two databases.\n"
unfolding head_of
some_differ = refl

none_differ : head_of (databases_differ 0 0 0) ≡ codes "AIDE found NO differences between the two databases.\n"
unfolding head_of
none_differ = refl

status_all : status_of 2 1 3 ≡ 7
status_all = refl

status_changed : status_of 0 0 9 ≡ 4
status_changed = refl

-- ---- a path as it is printed

escaped : printed (codes "/x\n\\%zz") ≡ codes "/x\\012\\134%zz"
escaped = refl
