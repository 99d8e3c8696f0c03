-- The levels of a report: their names and their order.
use Rattle.std.specs.Prelude.{ℕ, Bool, List, codes, find, nat_eq, nat_le, Option}
use Rattle.std.specs.Cmp.Lexicographic.{pointwise}
use Rattle.aide_attr.specs.declared.level.Level.{Level}
use Rattle.aide_attr.specs.declared.level.Level.TheVariants as level
use Rattle.aide_attr.specs.declared.level.TheConstants.Level.{ALL}

-- the name of a level in configurations
abbrev pub level_name : Level → List ℕ
level_name level.Minimal = codes "minimal"
level_name level.Summary = codes "summary"
level_name level.DatabaseAttributes = codes "database_attributes"
level_name level.ListEntries = codes "list_entries"
level_name level.ChangedAttributes = codes "changed_attributes"
level_name level.AddedRemovedAttributes = codes "added_removed_attributes"
level_name level.AddedRemovedEntries = codes "added_removed_entries"

-- the level with a name
unfoldable pub level_named : List ℕ → Option Level
level_named n = find (λ l. pointwise nat_eq (level_name l) n) ALL

-- the index of a level in the order, from 0
abbrev pub rank : Level → ℕ
rank level.Minimal = 0
rank level.Summary = 1
rank level.DatabaseAttributes = 2
rank level.ListEntries = 3
rank level.ChangedAttributes = 4
rank level.AddedRemovedAttributes = 5
rank level.AddedRemovedEntries = 6

-- whether a report of the chosen level contains what the other level adds
abbrev pub reaches : Level → Level → Bool
reaches chosen other = nat_le (rank other) (rank chosen)
