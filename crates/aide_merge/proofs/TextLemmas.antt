-- From the merge of two texts to the comparison of their maps.
use Rattle.std.specs.Prelude.{◌≡◌, ℕ, List}
use Rattle.std.proofs.Common.{◌∙◌}
use Rattle.aide_db.specs.Database.{IsSound}
use Rattle.aide_db.specs.Map.{database_of, entries_of}
use Rattle.aide_fields.specs.Path.{path_cmp}
use Rattle.aide_db.specs.declared.limits.Limits.{Limits}
use Rattle.aide_fields.proofs.PathLaws.{path_cmp_total, path_cmp-IsAntisymmetric}
use Rattle.aide_db.proofs.MapLaws.{entries-database_of}
use Rattle.aide_merge.specs.Compare.{changes}
use Rattle.aide_merge.specs.Merged.{merged}
use Rattle.aide_merge.proofs.MergeLemmas.{changes-merged}

-- of sound texts, the pass goes over the comparison of the maps
pub pass_is_changes : (limits : Limits) (old new : List ℕ) → IsSound limits old → IsSound limits new
    → changes (database_of old) (database_of new) ≡ merged path_cmp (entries_of old) (entries_of new)
pass_is_changes limits old new sound_old sound_new =
    changes-merged path_cmp path_cmp_total path_cmp-IsAntisymmetric (database_of old) (database_of new)
    ∙ (λ i. merged path_cmp (entries-database_of limits old sound_old i) (entries-database_of limits new sound_new i))
