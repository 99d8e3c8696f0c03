-- What the definitions compute on small texts.
use Rattle.std.proofs.Common.{◌≡◌, [], ◌∷◌, refl, true, false}
use Rattle.std.specs.Prelude.{codes}
use Rattle.std.specs.declared.cmp.Ordering.TheVariants.{Less}
use Rattle.aide_fields.specs.Text.{lines, ended_lines, unfinished_line, fields}
use Rattle.aide_attr.specs.Attr.{row, row_of, attr_of_column}
use Rattle.aide_attr.specs.declared.attr.Attr.TheVariants as attrs
use Rattle.aide_fields.specs.Path.{path_cmp}
use Rattle.aide_entry.specs.Lines.{kind_of, kind_of_field}
use Rattle.aide_entry.specs.Fields.{column_named, columns_of, are_columns}
use Rattle.aide_entry.specs.declared.column.Column.TheVariants.{Name, Bits, Of, Skipped}
use Rattle.aide_entry.specs.declared.line.LineKind.TheVariants.{Blank, Begin, Directive}

lines_empty : lines [] ≡ []
unfolding lines
lines_empty = refl

lines_newline : lines (10 ∷ []) ≡ [] ∷ []
unfolding lines
lines_newline = refl

lines_two : lines (97 ∷ 10 ∷ 98 ∷ []) ≡ (97 ∷ []) ∷ (98 ∷ []) ∷ []
unfolding lines
lines_two = refl

ended_two : ended_lines (97 ∷ 10 ∷ 98 ∷ []) ≡ (97 ∷ []) ∷ []
unfolding ended_lines
ended_two = refl

unfinished_two : unfinished_line (97 ∷ 10 ∷ 98 ∷ []) ≡ 98 ∷ []
unfolding unfinished_line
unfinished_two = refl

fields_two : fields (codes " /a  32 ") ≡ codes "/a" ∷ codes "32" ∷ []
unfolding fields
fields_two = refl

slash_first : path_cmp (codes "/a/b") (codes "/a-b") ≡ Less
unfolding path_cmp
slash_first = refl

parent_first : path_cmp (codes "/a") (codes "/a/") ≡ Less
unfolding path_cmp
parent_first = refl

-- a comment, a begin line with more fields, and a line of blanks
kind_comment : kind_of (codes " # x") ≡ Blank
unfolding kind_of kind_of_field fields
kind_comment = refl

kind_begin : kind_of (codes "@@begin_db x") ≡ Begin
unfolding kind_of kind_of_field fields
kind_begin = refl

kind_directive : kind_of (codes "@@foo") ≡ Directive
unfolding kind_of kind_of_field fields
kind_directive = refl

named : columns_of (codes "@@db_spec name attr size foo") ≡ Name ∷ Bits ∷ Of attrs.Size ∷ Skipped ∷ []
unfolding fields column_named attr_of_column row_of row
named = refl

twice : are_columns (Name ∷ Name ∷ []) ≡ false
twice = refl

fine : are_columns (Name ∷ Bits ∷ Of attrs.Size ∷ Skipped ∷ Skipped ∷ []) ≡ true
unfolding row_of row
fine = refl
