-- The unknown columns, as bits.
use Rattle.std.specs.Prelude.{ℕ, ◌+◌, ◌*◌, if◌then◌else◌, List, [], ◌∷◌}
use Rattle.aide_entry.specs.Fields.{is_skipped}
use Rattle.aide_entry.specs.declared.column.Column.{Column}

-- 1 for an unknown column, and 0 for any other
abbrev pub skipped_bit : Column → ℕ
skipped_bit column = if is_skipped column then 1 else 0

-- the bits of these columns, the first one lowest, and above them the bits of `more`
abbrev pub skipped_below : List Column → ℕ → ℕ
skipped_below [] more = more
skipped_below (column ∷ columns) more = skipped_bit column + 2 * skipped_below columns more

-- the sum of 2^(c-1) over each unknown column c, counted from 1
abbrev pub skipped_in : List Column → ℕ
skipped_in columns = skipped_below columns 0
