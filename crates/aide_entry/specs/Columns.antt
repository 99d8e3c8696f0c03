-- The columns in a `Columns`.
use Rattle.std.specs.Prelude.{Bool, List, take}
use Rattle.std.specs.List.{list_any}
use Rattle.aide_attr.specs.declared.attr.Attr.{Attr}
use Rattle.aide_entry.specs.Fields.{is_column}
use Rattle.aide_entry.specs.declared.column.Column.{Column}
use Rattle.aide_entry.specs.declared.column.Column.TheVariants.{Of}
use Rattle.aide_entry.specs.declared.columns.Columns.{Columns}

-- the first columns of the array, as many as the count says
abbrev pub columns_in : Columns → List Column
columns_in c = take c.count c.kinds

-- the attribute has a column of its own
abbrev pub has_column : Attr → List Column → Bool
has_column attr columns = list_any (is_column (Of attr)) columns
