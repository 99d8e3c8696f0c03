-- What can be wrong with a place of a configuration, one fault at a time, and which fault of a place is reported.
use Rattle.std.specs.Prelude.{ℕ, ◌==◌, nat_lt, nat_le, Bool, true, false, not, ◌&&◌, ◌||◌}
use Rattle.std.specs.Prelude.{List, [], ◌∷◌, length, codes, find, Option, Some, None, is_none}
use Rattle.std.specs.Prelude.{unwrap_or, if◌then◌else◌, Result, Err}
use Rattle.aide_attr.specs.declared.set.AttrSet.{AttrSet}
use Rattle.aide_attr.specs.declared.expression.ExprFault.{ExprFault}
use Rattle.aide_attr.specs.declared.expression.ExprFault.TheVariants as expression
use Rattle.aide_attr.specs.Level.{level_named}
use Rattle.aide_attr.specs.Name.{is_word, is_group_name}
use Rattle.aide_conf.specs.declared.fault.ConfText.{ConfText}
use Rattle.aide_conf.specs.declared.fault.ConfText.TheVariants.{After}
use Rattle.aide_conf.specs.declared.fault.ConfFaultKind.{ConfFaultKind}
use Rattle.aide_conf.specs.declared.fault.ConfFaultKind.TheVariants.{
  BadDirective,
  LeftOut,
  StrayElse,
  StrayEndif,
  MissingEndif,
  TooDeep,
  BadName,
  UnknownAttribute,
  BadExpression,
  BadValue,
  BadUrl,
  LineTooLong,
  ValueTooLong,
  TooMany,
  BadLine,
  NoOldDatabase,
  NoNewDatabase,
}
use Rattle.aide_conf.specs.declared.task.Need.{Need}
use Rattle.aide_conf.specs.declared.task.Need.TheVariants.{Compare}
use Rattle.aide_conf.specs.declared.option_kind.Side.{Side}
use Rattle.aide_conf.specs.declared.option_kind.Side.TheVariants.{Old, New}
use Rattle.aide_conf.specs.declared.option_kind.OptionKind.{OptionKind}
use Rattle.aide_conf.specs.declared.option_kind.OptionKind.TheVariants as kinds
use Rattle.aide_conf.specs.Cutting.{strip, bytes_before, bytes_after}
use Rattle.aide_conf.specs.Limits.{longest_line, longest_value, deepest}
use Rattle.aide_conf.specs.Effect.{same, is_skipped, is_selection, is_equals, option_named}
use Rattle.aide_conf.specs.Effect.{bool_named, is_left_out, path_of}
use Rattle.aide_conf.specs.declared.directive.Directive.{Directive}
use Rattle.aide_conf.specs.declared.directive.Directive.TheVariants.{Define, Undef, IfDef, IfNotDef}
use Rattle.aide_conf.specs.declared.directive.Directive.TheVariants.{IfOther, Omitted, Unknown}
use Rattle.aide_conf.specs.Directive.{directive_of, role_of}
use Rattle.aide_conf.specs.Blocks.{opens, divides, closes}
use Rattle.aide_conf.specs.Marks.{Marked}
use Rattle.aide_conf.specs.MarkedGroups.{is_too_many}
use Rattle.aide_conf.specs.MarkedVariables.{is_one_variable_more}
use Rattle.aide_conf.specs.MarkedPaths.{path_set}

-- ---- the order

-- The faults that a line or the end of a text can have, in the order in which they are reported. The last three are
-- faults of an end, the others are faults of a line.
unfoldable pub fault_order : List ConfFaultKind
fault_order =
    LineTooLong ∷ BadDirective ∷ TooDeep ∷ StrayElse ∷ StrayEndif ∷ BadName ∷ BadLine ∷ BadValue
    ∷ LeftOut ∷ BadUrl ∷ ValueTooLong ∷ UnknownAttribute ∷ BadExpression ∷ TooMany
    ∷ MissingEndif ∷ NoOldDatabase ∷ NoNewDatabase ∷ []

-- ---- what a line assigns

-- what a line assigns: a value to an option, or an expression to a group
pub data Assignment : Type 0 where
  -- the line is unused, a directive, empty, a comment or a selection line
  Silent : Assignment
  -- the line has no `=`
  Nameless : Assignment
  ToOption : OptionKind → List ℕ → Assignment
  -- the name of a group
  ToGroup : List ℕ → Assignment

-- what a name before a `=` and a value after it assign: a name that no option has is that of a group
abbrev pub assignment_to : Option OptionKind → List ℕ → List ℕ → Assignment
assignment_to None name value = ToGroup name
assignment_to (Some option) name value = ToOption option value

-- what a text assigns whose bytes after its first `=` are these, if it has one
abbrev pub assignment_by : List ℕ → Option (List ℕ) → Assignment
assignment_by name None = Nameless
assignment_by name (Some value) = assignment_to (option_named name) name (strip value)

-- what a used line that is no directive assigns, by its expansion without the blanks around it
abbrev pub assignment_in : List ℕ → Assignment
assignment_in text =
    if is_skipped text || is_selection text then Silent
    else assignment_by (strip (bytes_before is_equals text)) (bytes_after is_equals text)

-- what a line assigns, used or not, by its expansion
abbrev pub assignment_of : Bool → Option (Directive (List ℕ)) → List ℕ → Assignment
assignment_of used None expanded = if used then assignment_in (strip expanded) else Silent
assignment_of used _ expanded = Silent

-- ---- faults of directives

-- The directive has a word that this program does not know, or a condition that is not one of the two known ones. In an
-- unused part only a word counts that begins with `if`.
abbrev pub is_bad_directive : Bool → Option (Directive (List ℕ)) → Bool
is_bad_directive used (Some IfOther) = used
is_bad_directive used (Some (Unknown begins_if)) = used || begins_if
is_bad_directive used _ = false

-- This program leaves the directive out. In an unused part only a word counts that begins with `if`.
abbrev pub is_omitted_directive : Bool → Option (Directive (List ℕ)) → Bool
is_omitted_directive used (Some (Omitted begins_if)) = used || begins_if
is_omitted_directive used _ = false

-- the directive opens one block too many within one another, used or not
abbrev pub is_too_deep : ℕ → Option (Directive (List ℕ)) → Bool
is_too_deep depth item = opens (role_of item) && nat_le deepest depth

-- the directive is an `@@else` outside every block, or a second one in its block
abbrev pub is_stray_else : ℕ → Bool → Option (Directive (List ℕ)) → Bool
is_stray_else depth divided item = divides (role_of item) && (depth == 0 || divided)

-- the directive is an `@@endif` outside every block
abbrev pub is_stray_endif : ℕ → Option (Directive (List ℕ)) → Bool
is_stray_endif depth item = closes (role_of item) && depth == 0

-- the directive names a variable, and the name is no word
abbrev pub names_no_word : Option (Directive (List ℕ)) → Bool
names_no_word (Some (Define name value)) = not (is_word name)
names_no_word (Some (Undef name)) = not (is_word name)
names_no_word (Some (IfDef name)) = not (is_word name)
names_no_word (Some (IfNotDef name)) = not (is_word name)
names_no_word _ = false

-- the directive gives a variable a value, and the expansion of the value is too long
abbrev pub defines_too_long : Option (Directive (List ℕ)) → List ℕ → Bool
defines_too_long (Some (Define name value)) expanded = nat_lt longest_value (length expanded)
defines_too_long _ expanded = false

-- the directive gives a variable a value, and there are as many other variables as there may be
abbrev pub defines_too_many : List Marked → Option (Directive (List ℕ)) → Bool
defines_too_many earlier (Some (Define name value)) = is_one_variable_more earlier name
defines_too_many earlier _ = false

-- ---- faults of assignments

-- the line is no assignment: it has no `=`
abbrev pub is_nameless : Assignment → Bool
is_nameless Nameless = true
is_nameless _ = false

-- the name is neither that of an option nor one that a group may have
abbrev pub has_bad_group : Assignment → Bool
has_bad_group (ToGroup name) = not (is_group_name name)
has_bad_group _ = false

-- there are as many other groups as there may be
abbrev pub has_too_many_groups : List Marked → Assignment → Bool
has_too_many_groups earlier (ToGroup name) = is_too_many earlier name
has_too_many_groups earlier _ = false

-- the value is not one of the words of an option that has such words
abbrev pub is_no_word_of : OptionKind → List ℕ → Bool
is_no_word_of kinds.Level value = is_none (level_named value)
is_no_word_of (kinds.Flag switch) value = is_none (bool_named value)
is_no_word_of kinds.ReportFormat value =
    not (same value (codes "json") || same value (codes "plain"))
is_no_word_of _ value = false

-- the value of an option is empty, or not one of the option's words
abbrev pub has_bad_value : Assignment → Bool
has_bad_value (ToOption option value) = length value == 0 || is_no_word_of option value
has_bad_value _ = false

-- this program leaves the option out, or the option with this value
abbrev pub is_option_left_out : OptionKind → List ℕ → Bool
is_option_left_out (kinds.Url database) value = is_left_out value
is_option_left_out kinds.ReportFormat value = same value (codes "json")
is_option_left_out kinds.Older value = true
is_option_left_out _ value = false

-- the line assigns to an option that this program leaves out, or a value that it leaves out
abbrev pub is_left_out_by : Assignment → Bool
is_left_out_by (ToOption option value) = is_option_left_out option value
is_left_out_by _ = false

-- the path of a database, if the line names one
abbrev pub path_named : Assignment → Option (List ℕ)
path_named (ToOption (kinds.Url database) value) = path_of value
path_named _ = None

-- the line assigns a URL to a database
abbrev pub is_url : Assignment → Bool
is_url (ToOption (kinds.Url database) value) = true
is_url _ = false

-- the line assigns a URL to a database, and the URL leads to no path
abbrev pub has_bad_url : Assignment → Bool
has_bad_url assignment = is_url assignment && is_none (path_named assignment)

-- the line names a path of a database, and the path is too long
abbrev pub has_long_path : Assignment → Bool
has_long_path assignment = nat_lt longest_value (length (unwrap_or (path_named assignment) []))

-- the expression of the line has an unknown name; an expression is judged only if its line has no fault before that
abbrev pub has_unknown_name : Option (Result AttrSet ExprFault) → Bool
has_unknown_name (Some (Err (expression.UnknownName at))) = true
has_unknown_name _ = false

-- the expression of the line is malformed; an expression is judged only if its line has no fault before that
abbrev pub has_bad_form : Option (Result AttrSet ExprFault) → Bool
has_bad_form (Some (Err (expression.BadExpression at))) = true
has_bad_form _ = false

-- ---- all faults of a line

-- the text of a line that is no directive is too long after its expansion
abbrev pub is_too_long_text : Option (Directive (List ℕ)) → List ℕ → Bool
is_too_long_text None text = not (is_skipped text) && nat_lt longest_line (length text)
is_too_long_text _ text = false

-- the line is too long, before its expansion or after it
abbrev pub is_too_long : List ℕ → Option (Directive (List ℕ)) → List ℕ → Bool
is_too_long line item text = nat_lt longest_line (length line) || is_too_long_text item text

-- whether a fault is true of a line that is not skipped, whatever else is wrong with the line
abbrev pub is_wrong : List Marked → Marked → List ℕ → Option (Directive (List ℕ))
    → Assignment → ConfFaultKind → Bool
is_wrong earlier x line item assignment LineTooLong =
    x.used && is_too_long line item (strip x.expanded)
is_wrong earlier x line item assignment BadDirective = is_bad_directive x.used item
is_wrong earlier x line item assignment TooDeep = is_too_deep x.depth item
is_wrong earlier x line item assignment StrayElse = is_stray_else x.depth x.divided item
is_wrong earlier x line item assignment StrayEndif = is_stray_endif x.depth item
is_wrong earlier x line item assignment BadName =
    (x.used && names_no_word item) || has_bad_group assignment
is_wrong earlier x line item assignment BadLine = is_nameless assignment
is_wrong earlier x line item assignment BadValue = has_bad_value assignment
is_wrong earlier x line item assignment LeftOut =
    is_omitted_directive x.used item || is_left_out_by assignment
is_wrong earlier x line item assignment BadUrl = has_bad_url assignment
is_wrong earlier x line item assignment ValueTooLong =
    (x.used && defines_too_long item x.expanded) || has_long_path assignment
is_wrong earlier x line item assignment UnknownAttribute = has_unknown_name x.verdict
is_wrong earlier x line item assignment BadExpression = has_bad_form x.verdict
is_wrong earlier x line item assignment TooMany =
    (x.used && defines_too_many earlier item) || has_too_many_groups earlier assignment
is_wrong _ _ _ _ _ _ = false

-- the line is not skipped and has the fault
abbrev pub line_has : List Marked → Marked → List ℕ → ConfFaultKind → Bool
line_has earlier x line kind = not (is_skipped line)
    && is_wrong earlier x line (directive_of line)
    (assignment_of x.used (directive_of line) x.expanded) kind

-- ---- all faults of a place

-- the text is the last one, both databases are to be named, and this one is not
abbrev pub lacks_database : Need → ConfText → List Marked → Side → Bool
lacks_database Compare After earlier database = is_none (path_set database earlier)
lacks_database _ _ earlier database = false

-- whether a fault is true of the end of a text, whatever else is wrong with that end
abbrev pub end_has : Need → List Marked → Marked → ConfFaultKind → Bool
end_has need earlier x MissingEndif = not (x.depth == 0)
end_has need earlier x NoOldDatabase = lacks_database need x.place.text earlier Old
end_has need earlier x NoNewDatabase = lacks_database need x.place.text earlier New
end_has _ _ _ _ = false

-- the line, or the end of the text, has the fault
abbrev pub place_has : Need → List Marked → Marked → Option (List ℕ) → ConfFaultKind → Bool
place_has need earlier x None kind = end_has need earlier x kind
place_has need earlier x (Some line) kind = line_has earlier x line kind

-- the place that follows these has the fault
unfoldable pub has_fault : Need → List Marked → Marked → ConfFaultKind → Bool
has_fault need earlier x kind = place_has need earlier x x.place.line kind

-- the fault of the place that follows these: the first in the order that the place has
unfoldable pub fault_at : Need → List Marked → Marked → Option ConfFaultKind
fault_at need earlier x = find (has_fault need earlier x) fault_order
