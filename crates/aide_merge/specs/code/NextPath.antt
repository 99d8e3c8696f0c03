-- The path that comes next in a merge: the change there, and how far each side has come after it.
use Rattle.std.specs.Prelude.{ℕ, Option, Some, None, List, [], ◌∷◌}
use Rattle.std.specs.declared.cmp.Ordering.{Ordering}
use Rattle.std.specs.declared.cmp.Ordering.TheVariants.{Less, Equal, Greater}
use Rattle.aide_fields.specs.Attributes.{Attributes, Entry}
use Rattle.aide_fields.specs.Path.{path_cmp}
use Rattle.aide_merge.specs.Compare.{Change}
use Rattle.aide_merge.specs.declared.merge.NextEntry.{NextEntry}
use Rattle.aide_merge.specs.declared.merge.NextEntry.TheVariants.{Due}

-- the change at the first path of two entries, by the order of their paths
abbrev pub change_by : Ordering → Entry → Entry → Change (List ℕ) Attributes
change_by Less old new = (old.0, (Some old.1, None))
change_by Equal old new = (old.0, (Some old.1, Some new.1))
change_by Greater old new = (new.0, (None, Some new.1))

-- the change at the next path, by the next entry of each side. At the end there is none
abbrev pub next_change : Option Entry → Option Entry → List (Change (List ℕ) Attributes)
next_change None None = []
next_change None (Some new) = (new.0, (None, Some new.1)) ∷ []
next_change (Some old) None = (old.0, (Some old.1, None)) ∷ []
next_change (Some old) (Some new) = change_by (path_cmp old.0 new.0) old new ∷ []

-- how far a side has come after it has passed on what it has at a path
abbrev pub side_after : Option Attributes → NextEntry → NextEntry
side_after None next = next
side_after (Some attributes) next = Due

-- how far the old side has come after these changes, of which there is at most one
abbrev pub old_after : List (Change (List ℕ) Attributes) → NextEntry → NextEntry
old_after [] next = next
old_after (change ∷ changes) next = side_after change.1.0 next

-- how far the new side has come after them
abbrev pub new_after : List (Change (List ℕ) Attributes) → NextEntry → NextEntry
new_after [] next = next
new_after (change ∷ changes) next = side_after change.1.1 next
