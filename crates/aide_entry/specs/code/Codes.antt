-- The numbers of columns.
use Rattle.std.specs.Prelude.{ℕ, ◌+◌}
use Rattle.aide_attr.specs.Attr.{index}
use Rattle.aide_entry.specs.declared.column.Column.{Column}
use Rattle.aide_entry.specs.declared.column.Column.TheVariants.{Name, Bits, Of, Skipped}

-- the number of a column; each column has a number of its own
abbrev pub code_of : Column → ℕ
code_of Name = 0
code_of Bits = 1
code_of Skipped = 2
code_of (Of attr) = 3 + index attr
