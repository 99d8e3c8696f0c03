-- Tests of one change.
use Rattle.std.specs.Prelude.{Bool, true, false, Some, None, is_some}
use Rattle.aide_merge.specs.Compare.{Change}

module _ {K X : Type 0} where
  -- only the new map contains the key
  abbrev pub is_added : Change K X → Bool
  is_added (k, (None, Some new)) = true
  is_added _ = false

  -- only the old map contains the key
  abbrev pub is_removed : Change K X → Bool
  is_removed (k, (Some old, None)) = true
  is_removed _ = false

  -- both maps contain the key, and their values differ
  abbrev pub is_changed : (X → X → Bool) → Change K X → Bool
  is_changed differ (k, (Some old, Some new)) = differ old new
  is_changed differ _ = false

  -- the new map contains the key
  abbrev pub is_of_new : Change K X → Bool
  is_of_new (k, (old, new)) = is_some new
