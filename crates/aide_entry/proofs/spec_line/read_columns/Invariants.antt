use Rattle.std.proofs.Common.{◌≡◌, ◌++◌, length, map}
use Rattle.aide_fields.specs.Text.{fields}
use Rattle.aide_entry.specs.Columns.{columns_in}
use Rattle.aide_entry.specs.Fields.{column_named, columns_of}
use Rattle.aide_entry.proofs.spec_line.read_columns.Given as goal

abbrev pub invariant-fields : goal.invariant-fields
invariant-fields l = columns_in l.columns ++ map column_named (fields l.rest) ≡ columns_of l.line

abbrev pub decreases-fields : goal.decreases-fields
decreases-fields l = length l.rest
