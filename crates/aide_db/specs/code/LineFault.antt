-- The fault of a line, by its kind and the lines before it that are not skipped.
use Rattle.std.specs.Prelude.{ℕ, nat_lt, if◌then◌else◌, Option, Some, None}
use Rattle.std.specs.Prelude.{List, [], ◌∷◌, length}
use Rattle.std.specs.List.{list_any}
use Rattle.aide_entry.specs.Lines.{kind_of, is_end}
use Rattle.aide_entry.specs.Fields.{columns_of, are_columns}
use Rattle.aide_entry.specs.Entry.{entry_fault}
use Rattle.aide_entry.specs.declared.line.LineKind.{LineKind}
use Rattle.aide_entry.specs.declared.line.LineKind.TheVariants.{Blank, Begin, Spec, End, Directive}
use Rattle.aide_entry.specs.declared.line.LineKind.TheVariants.{Other}
use Rattle.aide_entry.specs.declared.fault_kind.DbFaultKind.{DbFaultKind}
use Rattle.aide_entry.specs.declared.fault_kind.DbFaultKind.TheVariants.{LineTooLong, NoBegin}
use Rattle.aide_entry.specs.declared.fault_kind.DbFaultKind.TheVariants.{BadDirective, BadSpec, NoSpec}
use Rattle.aide_db.specs.Database.{counted}

-- the fault of a line after these lines, which are not skipped
abbrev pub fault_after : List (List ℕ) → List ℕ → LineKind → Option DbFaultKind
fault_after head line Blank = None
fault_after [] line Begin = None
fault_after [] line Spec = Some NoBegin
fault_after [] line End = Some NoBegin
fault_after [] line Directive = Some NoBegin
fault_after [] line Other = Some NoBegin
fault_after (begin ∷ []) line Begin = Some BadDirective
fault_after (begin ∷ []) line Spec = if are_columns (columns_of line) then None else Some BadSpec
fault_after (begin ∷ []) line End = Some NoSpec
fault_after (begin ∷ []) line Directive = Some BadDirective
fault_after (begin ∷ []) line Other = Some NoSpec
fault_after (begin ∷ spec ∷ entries) line Begin = Some BadDirective
fault_after (begin ∷ spec ∷ entries) line Spec = Some BadDirective
fault_after (begin ∷ spec ∷ entries) line End = None
fault_after (begin ∷ spec ∷ entries) line Directive = Some BadDirective
fault_after (begin ∷ spec ∷ entries) line Other = entry_fault (columns_of spec) entries line

-- the fault of a line after these lines, which is the first in the order that the line has
unfoldable pub line_fault : ℕ → List (List ℕ) → List ℕ → Option DbFaultKind
line_fault limit before line =
    if list_any is_end before then None else (
    if nat_lt limit (length line) then Some LineTooLong else
    fault_after (counted before) line (kind_of line))
