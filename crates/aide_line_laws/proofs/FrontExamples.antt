-- A worked example of what comes before the first fault of a text.
use Rattle.std.specs.Prelude.{◌≡◌, ℕ, List, [], ◌∷◌, map, Some, codes}
use Rattle.std.proofs.Common.{◌∙◌, inl, lit<, refl, sym}
use Rattle.percent_encoding.specs.Percent.{percent_decode}
use Rattle.aide_attr.specs.Attr.{attr_of_column, row, row_of}
use Rattle.aide_entry.specs.Entry.{is_path}
use Rattle.aide_entry.specs.Fields.{column_named}
use Rattle.aide_entry.specs.Lines.{kind_of, kind_of_field}
use Rattle.aide_fields.specs.Numbers.{natural_of, number_of}
use Rattle.aide_fields.specs.Path.{path_cmp}
use Rattle.aide_fields.specs.Text.{fields, lines, unfinished_line}
use Rattle.aide_entry.specs.declared.fault_kind.DbFaultKind.TheVariants.{OutOfOrder}
use Rattle.aide_fields.proofs.Literals.{percent_encoding_on_literals}
use Rattle.aide_db.specs.Database.{IsFirstFault, whole_lines}
use Rattle.aide_db.specs.code.LineFault.{line_fault}
use Rattle.aide_db.specs.Map.{entries_of}
use Rattle.aide_db.specs.Parts.{IsOpen}
use Rattle.aide_db.specs.declared.limits.Limits.{Limits}
use Rattle.aide_db.proofs.FaultExists.{open_nil}
use Rattle.aide_db.proofs.FaultOrderLemmas.{first_of_open}
use Rattle.aide_db.proofs.Front.{bad_line, open_front, open_more}
use Rattle.aide_db.proofs.LinesLemmas.{lines_plain}
use Rattle.aide_line_run.specs.BeforeFault.{EndsAtFault}

-- a database whose third entry line is out of order, and the lines before it
abbrev text : List ℕ
text = codes "@@begin_db\n@@db_spec name size\n/a 1\n/c 1\n/b 1\n/d 1\n@@end_db\n"

abbrev front : List ℕ
front = codes "@@begin_db\n@@db_spec name size\n/a 1\n/c 1\n"

abbrev limits : Limits
limits = record { line = 100; bytes = 1000 }

lines_are : lines front ≡ codes "@@begin_db" ∷ codes "@@db_spec name size" ∷ codes "/a 1" ∷ codes "/c 1" ∷ []
unfolding lines
lines_are = refl

open_lines : IsOpen 100 (codes "@@begin_db" ∷ codes "@@db_spec name size" ∷ codes "/a 1" ∷ codes "/c 1" ∷ [])
unfolding line_fault kind_of kind_of_field fields column_named attr_of_column row_of row is_path percent_encoding_on_literals path_cmp
    number_of natural_of
open_lines =
    open_more 100 (codes "@@begin_db" ∷ codes "@@db_spec name size" ∷ codes "/a 1" ∷ []) (codes "/c 1")
    (open_more 100 (codes "@@begin_db" ∷ codes "@@db_spec name size" ∷ []) (codes "/a 1")
    (open_more 100 (codes "@@begin_db" ∷ []) (codes "@@db_spec name size")
    (open_more 100 [] (codes "@@begin_db") (open_nil 100) refl refl) refl refl) refl refl) refl refl

out_of_order : line_fault 100 (codes "@@begin_db" ∷ codes "@@db_spec name size" ∷ codes "/a 1" ∷ codes "/c 1" ∷ []) (codes "/b 1")
    ≡ Some OutOfOrder
unfolding line_fault kind_of kind_of_field fields column_named attr_of_column row_of row is_path percent_encoding_on_literals path_cmp
    number_of natural_of
out_of_order = refl

fifth_line : IsFirstFault limits text 5 OutOfOrder
unfolding whole_lines lines
fifth_line = inl (record {
  before = lines front;
  line = codes "/b 1";
  after = codes "/d 1" ∷ codes "@@end_db" ∷ [];
  parts = refl;
  number_is = refl;
  good = open_front 100 (lines front) (lit< tt) (lines_plain front) open_lines;
  bad = bad_line 100 (lines front) (codes "/b 1") OutOfOrder open_lines out_of_order;
  kind_is = sym (first_of_open 100 (lines front) (codes "/b 1") open_lines) ∙ out_of_order;
})

-- Two entries come before the fault; the entry of the faulty line and the one after it do not.
pub front_example : EndsAtFault limits text front × (map (λ one. one.0) (entries_of front) ≡ codes "/a" ∷ codes "/c" ∷ [])
unfolding lines unfinished_line fields kind_of kind_of_field column_named attr_of_column row_of row percent_decode
front_example = (
  record {
    number = 5;
    kind = OutOfOrder;
    fault = fifth_line;
    number_is = refl;
    more = codes "/b 1\n/d 1\n@@end_db\n";
    parts = refl;
    whole = inl refl;
  },
  refl,
)
