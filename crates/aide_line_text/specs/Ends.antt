-- What the last line contains about both databases: numbers, and columns that were skipped.
use Rattle.std.specs.Prelude.{ℕ, zero, suc, ◌+◌, ◌-◌, ◌==◌, Bool, List, [], ◌∷◌}
use Rattle.std.specs.Prelude.{map, codes}
use Rattle.std.specs.Int.{bit_at}
use Rattle.std.specs.List.{filter}
use Rattle.aide_json.specs.Number.{count}
use Rattle.aide_json.specs.Value.{Member, Value, array, values_of}
use Rattle.aide_line_text.specs.declared.counts.LineCounts.{LineCounts}

-- the numbers of entries: all of the new database, and those that were added, removed or changed
abbrev pub count_members : LineCounts → List Member
count_members counts =
    (codes "total", count counts.total)
    ∷ (codes "added", count counts.added)
    ∷ (codes "removed", count counts.removed)
    ∷ (codes "changed", count counts.changed) ∷ []

-- this many numbers, counted from a first one
unfoldable pub numbers : (first count : ℕ) → List ℕ
numbers first zero = []
numbers first (suc count) = first ∷ numbers (first + 1) count

-- whether a column is in a set of columns: bit c - 1 means column c
abbrev pub is_skipped : (columns column : ℕ) → Bool
is_skipped columns column = bit_at columns (column - 1) == 1

-- the columns of a set, which has at most 64, as an array in ascending order
abbrev pub skipped_array : ℕ → Value
skipped_array columns = array (values_of (map count (filter (is_skipped columns) (numbers 1 64))))

-- the numbers of lines by their account: the old entry, a trusted machine, a list, or none of these
abbrev pub account_members : LineCounts → List Member
account_members counts =
    (codes "same_as_old", count counts.same_as_old)
    ∷ (codes "same_as_trusted", count counts.same_as_trusted)
    ∷ (codes "left_out", count counts.left_out)
    ∷ (codes "others", count counts.others) ∷ []
