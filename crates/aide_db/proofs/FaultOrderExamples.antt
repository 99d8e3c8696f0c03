-- Lines with more than one fault, and the one that is reported.
use Rattle.std.proofs.Common.{◌≡◌, ℕ, List, [], ◌∷◌, refl, length, true, false, Some}
use Rattle.std.specs.Prelude.{codes}
use Rattle.aide_fields.proofs.Literals.{percent_encoding_on_literals}
use Rattle.aide_attr.specs.Attr.{row, row_of, attr_of_column}
use Rattle.aide_fields.specs.Text.{fields}
use Rattle.aide_fields.specs.Path.{path_cmp}
use Rattle.aide_entry.specs.Lines.{kind_of, kind_of_field}
use Rattle.aide_entry.specs.Fields.{column_named}
use Rattle.aide_fields.specs.Numbers.{number_of, natural_of}
use Rattle.aide_fields.specs.Values.{time_of}
use Rattle.aide_entry.specs.Entry.{is_path}
use Rattle.aide_db.specs.Database.{fault_of}
use Rattle.aide_db.specs.FaultOrder.{fault_order, field_faults, has_fault}
use Rattle.aide_entry.specs.declared.fault_kind.DbFaultKind.TheVariants.{NoBegin, BadSpec, FieldCount, OutOfOrder}
use Rattle.aide_entry.specs.declared.fault_kind.DbFaultKind.TheVariants.{BadNumber, BadTime}

-- three faults for each of 64 columns, and eight others
all_of_them : length fault_order ≡ 200
unfolding fault_order field_faults
all_of_them = refl

-- a spec line that names no path, with no begin line before it
spec_first : has_fault 65536 [] (codes "@@db_spec size") BadSpec ≡ true
unfolding has_fault kind_of kind_of_field fields column_named attr_of_column row_of row
spec_first = refl

spec_first_lacks : has_fault 65536 [] (codes "@@db_spec size") NoBegin ≡ true
unfolding has_fault kind_of kind_of_field fields
spec_first_lacks = refl

spec_first_told : fault_of 65536 [] (codes "@@db_spec size") ≡ Some NoBegin
unfolding fault_of fault_order field_faults has_fault kind_of kind_of_field fields
spec_first_told = refl

-- a bad time under the second column and a bad number under the third
abbrev before : List (List ℕ)
before = codes "@@begin_db" ∷ codes "@@db_spec name mtime size" ∷ codes "/b 1 1" ∷ []

time_bad : has_fault 65536 before (codes "/c 1x y") (BadTime 2) ≡ true
unfolding has_fault kind_of kind_of_field fields column_named attr_of_column row_of row time_of number_of natural_of
time_bad = refl

number_bad : has_fault 65536 before (codes "/c 1x y") (BadNumber 3) ≡ true
unfolding has_fault kind_of kind_of_field fields column_named attr_of_column row_of row number_of natural_of
number_bad = refl

-- a column of times has no bad number
time_no_number : has_fault 65536 before (codes "/c 1x y") (BadNumber 2) ≡ false
unfolding has_fault kind_of kind_of_field fields column_named attr_of_column row_of row
time_no_number = refl

first_column_told : fault_of 65536 before (codes "/c 1x y") ≡ Some (BadTime 2)
unfolding fault_of fault_order field_faults has_fault kind_of kind_of_field fields column_named attr_of_column row_of row is_path
    percent_encoding_on_literals path_cmp time_of number_of natural_of
first_column_told = refl

-- an entry out of path order with a bad number, and with a field too few
order_bad : has_fault 65536 before (codes "/a 1 y") OutOfOrder ≡ true
unfolding has_fault kind_of kind_of_field fields column_named attr_of_column row_of row percent_encoding_on_literals path_cmp
order_bad = refl

order_told : fault_of 65536 before (codes "/a 1 y") ≡ Some OutOfOrder
unfolding fault_of fault_order field_faults has_fault kind_of kind_of_field fields column_named attr_of_column row_of row is_path
    percent_encoding_on_literals path_cmp
order_told = refl

count_told : fault_of 65536 before (codes "/a y") ≡ Some FieldCount
unfolding fault_of fault_order field_faults has_fault kind_of kind_of_field fields column_named attr_of_column row_of row
count_told = refl
