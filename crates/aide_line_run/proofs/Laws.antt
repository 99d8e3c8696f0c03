-- What is sought with a trusted pair of sound texts is what its maps have.
use Rattle.std.specs.Prelude.{◌≡◌, ℕ, true, cond, T, List, [], ◌∷◌, Option, Some, None}
use Rattle.std.proofs.Common.{refl, sym, ap, subst, ◌∙◌}
use Rattle.std.specs.declared.cmp.Ordering.{Ordering}
use Rattle.std.specs.declared.cmp.Ordering.TheVariants.{Less, Equal, Greater}
use Rattle.std.specs.Ordering.{is_eq, is_lt, ordering_reverse}
use Rattle.std.specs.FinMap.{entries, entries_sorted, get, get-entries}
use Rattle.std.specs.FinMap.Entries.{find, is_sorted}
use Rattle.aide_agreement.specs.Account.{Pair, same_as}
use Rattle.aide_db.specs.Database.{IsSound}
use Rattle.aide_db.specs.Map.{Database, database_of}
use Rattle.aide_db.specs.declared.limits.Limits.{Limits}
use Rattle.aide_fields.specs.Attributes.{Attributes}
use Rattle.aide_fields.specs.Path.{path_cmp}
use Rattle.aide_fields.proofs.PathLaws.{path_cmp_total, path_cmp-IsAntisymmetric}
use Rattle.aide_merge.specs.Compare.{changes, compared}
use Rattle.aide_merge.specs.Said.{PathChange}
use Rattle.aide_merge.specs.code.Merging.{pass_of}
use Rattle.aide_merge.specs.Merged.{merged}
use Rattle.aide_merge.proofs.MergeLemmas.{and_second, below_sorted, changes-merged, find-merged}
use Rattle.aide_merge.proofs.MergeLemmas.{find_below, paired, sorted-merged}
use Rattle.aide_merge.proofs.TextLemmas.{pass_is_changes}
use Rattle.aide_line_run.specs.Lines.{by_trusted}
use Rattle.aide_line_run.specs.Listed.{Leaves, account_by}
use Rattle.aide_line_run.specs.Sought.{found_at, seek, sought_by}
use Rattle.aide_line_run.proofs.SoughtLemmas.{T_true}

-- what is found at a path, or nothing on either side
abbrev either_of : Option Pair → Pair
either_of None = (None, None)
either_of (Some pair) = pair

either_paired : (a b : Option Attributes) → either_of (paired a b) ≡ (a, b)
either_paired None None = refl
either_paired None (Some y) = refl
either_paired (Some x) b = refl

turned : (x y : List ℕ) (r : Ordering) → path_cmp x y ≡ r → path_cmp y x ≡ ordering_reverse r
turned x y r is = path_cmp_total.antisymm y x ∙ ap ordering_reverse is

-- what is found at a path of changes in order is what they have there
found_sorted : (q : List ℕ) (es : List PathChange) → T (is_sorted path_cmp es)
    → found_at q (seek q es) ≡ either_of (find path_cmp q es)
found_sorted q [] sorted = refl
found_sorted q (e ∷ es) sorted =
    elim (path_cmp e.0 q) as (λ r. path_cmp e.0 q ≡ r
    → found_at q (cond (is_lt r) (seek q es) (e ∷ es)) ≡ either_of (find path_cmp q (e ∷ es))) [
      | Less ↦ λ is. found_sorted q es (and_second _ _ sorted)
          ∙ sym (ap (λ r. either_of (cond (is_eq r) (Some e.1) (find path_cmp q es))) (turned e.0 q Less is))
      | Equal ↦ λ is. ap (λ r. cond {A = Pair} (is_eq r) e.1 (None, None)) is
          ∙ sym (ap (λ r. either_of (cond (is_eq r) (Some e.1) (find path_cmp q es))) (turned e.0 q Equal is))
      | Greater ↦ λ is. ap (λ r. cond {A = Pair} (is_eq r) e.1 (None, None)) is
          ∙ sym (ap either_of (find_below path_cmp path_cmp_total q (e ∷ es)
          (below_sorted path_cmp path_cmp_total q e es (turned e.0 q Greater is) sorted)))
    ] refl

-- what is found at a path of the merge of two maps is what both have there
found_merged : (old new : Database) (q : List ℕ)
    → found_at q (seek q (merged path_cmp (entries old) (entries new))) ≡ (get old q, get new q)
found_merged old new q =
    found_sorted q (merged path_cmp (entries old) (entries new))
    (sorted-merged path_cmp path_cmp_total (entries old) (entries new) (entries_sorted old) (entries_sorted new))
    ∙ ap either_of (find-merged path_cmp path_cmp_total (entries old) (entries new) (entries_sorted old) (entries_sorted new) q)
    ∙ (λ i. either_of (paired (sym (get-entries old q) i) (sym (get-entries new q) i)))
    ∙ either_paired (get old q) (get new q)

-- the changes of two maps are in path order
pub maps_sorted : (old new : List ℕ) → changes (database_of old) (database_of new) ≡ pass_of old new
    → is_sorted path_cmp (pass_of old new) ≡ true
maps_sorted old new are =
    T_true _ (subst (λ l. T (is_sorted path_cmp l)) are (entries_sorted (compared (database_of old) (database_of new))))

-- the changes that a pass over two sound texts meets are in path order
pub pass_sorted : (limits : Limits) (old new : List ℕ) → IsSound limits old → IsSound limits new
    → is_sorted path_cmp (pass_of old new) ≡ true
pass_sorted limits old new sound_old sound_new = maps_sorted old new (pass_is_changes limits old new sound_old sound_new)

-- What a pass takes for the account of a change is what the trusted maps say.
pub maps_sought : (leaves : Leaves) (trusted_old trusted_new : List ℕ)
    → changes (database_of trusted_old) (database_of trusted_new) ≡ pass_of trusted_old trusted_new
    → sought_by leaves (pass_of trusted_old trusted_new) ≡ by_trusted leaves (database_of trusted_old) (database_of trusted_new)
maps_sought leaves trusted_old trusted_new are =
    ap (sought_by leaves) (sym are
    ∙ changes-merged path_cmp path_cmp_total path_cmp-IsAntisymmetric (database_of trusted_old) (database_of trusted_new))
    ∙ (λ i c. account_by (same_as c.1 (found_merged (database_of trusted_old) (database_of trusted_new) c.0 i)) (leaves c))

-- the same of sound texts
pub sought_is : (leaves : Leaves) (limits : Limits) (trusted_old trusted_new : List ℕ) → IsSound limits trusted_old → IsSound limits
    trusted_new
    → sought_by leaves (pass_of trusted_old trusted_new) ≡ by_trusted leaves (database_of trusted_old) (database_of trusted_new)
sought_is leaves limits trusted_old trusted_new sound_old sound_new =
    maps_sought leaves trusted_old trusted_new (pass_is_changes limits trusted_old trusted_new sound_old sound_new)
