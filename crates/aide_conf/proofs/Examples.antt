-- Worked examples: what the definitions compute to.
use Rattle.std.proofs.Common.{ℕ, ◌≡◌, true, false, List, [], ◌∷◌, ◌++◌, Some, None, Err, refl}
use Rattle.std.specs.Prelude.{codes, map}
use Rattle.aide_attr.specs.declared.expression.ExprFault.TheVariants.{UnknownName}
use Rattle.aide_attr.specs.declared.level.Level.TheVariants.{Minimal}
use Rattle.aide_attr.specs.Attr.{row, row_of, attr_named}
use Rattle.aide_attr.specs.Level.{level_named}
use Rattle.aide_attr.specs.Name.{is_group_name, is_word, is_word_byte, is_empty_name}
use Rattle.aide_conf.specs.declared.task.Need.TheVariants.{Compare, Check}
use Rattle.aide_conf.specs.declared.fault.ConfText.TheVariants.{File, After}
use Rattle.aide_conf.specs.declared.fault.ConfFaultKind.TheVariants.{BadDirective, LeftOut, StrayElse, StrayEndif}
use Rattle.aide_conf.specs.declared.fault.ConfFaultKind.TheVariants.{MissingEndif, TooDeep, BadName, BadValue, BadUrl}
use Rattle.aide_conf.specs.declared.fault.ConfFaultKind.TheVariants.{BadLine, UnknownAttribute, NoOldDatabase}
use Rattle.aide_conf.specs.declared.fault.ConfFaultKind.TheVariants.{NoNewDatabase}
use Rattle.aide_conf.specs.declared.options.Switch.TheVariants.{Quiet}
use Rattle.aide_conf.specs.Cutting.{Place, is_blank, strip, lines_of, places}
use Rattle.aide_conf.specs.Effect.{Effect, Nothing, Faulty, SetsLevel, DefinesGroup, DefinesVariable, OpensBlock}
use Rattle.aide_conf.specs.Options.{switch_named, list_named}
use Rattle.aide_conf.specs.Effect.{kept_effect, value_effect, is_selection, is_directive, is_omitted, main_option}
use Rattle.aide_conf.specs.Effect.{is_accepted, is_older, option_named, bool_named, is_left_out, path_after, path_of}
use Rattle.aide_conf.specs.Directive.{line_effect, directive_of, directive_by, condition}
use Rattle.aide_conf.specs.Marks.{Marked, says, last_given}
use Rattle.aide_conf.specs.MarkedVariables.{variable}
use Rattle.aide_conf.specs.code.PlaceFault.{missing}
use Rattle.aide_conf.specs.FaultOrder.{fault_at, fault_order, has_fault}
use Rattle.aide_conf.specs.Settings.{counted, level_in, switch_in}

-- ---- lines

two_lines : lines_of (codes "a" ++ 10 ∷ 10 ∷ codes "b") ≡ codes "a" ∷ [] ∷ codes "b" ∷ []
two_lines = refl

-- a last newline begins no line, and each text has an end
three_texts : map (λ (p : Place). p.number) (places (codes "a" ++ 10 ∷ []) [] (codes "b")) ≡ 1 ∷ 2 ∷ 1 ∷ 1 ∷ 2 ∷ []
three_texts = refl

stripped : strip (codes "  a b" ++ 9 ∷ []) ≡ codes "a b"
unfolding strip is_blank
stripped = refl

-- ---- what a line says

-- a used line without variables
line : List ℕ → Effect
line bytes = line_effect true bytes bytes

level : line (codes "report_level = minimal") ≡ SetsLevel Minimal
unfolding line line_effect directive_of kept_effect value_effect is_selection is_directive option_named main_option strip is_blank
    level_named
level = refl

group_line : line (codes "my = p+s") ≡ DefinesGroup (codes "my") (codes "p+s")
unfolding line line_effect directive_of kept_effect is_selection is_directive option_named main_option switch_named list_named
    is_accepted is_older strip is_blank is_group_name is_word is_word_byte attr_named row_of row is_empty_name
group_line = refl

taken_name : line (codes "p = s") ≡ Faulty BadName
unfolding line line_effect directive_of kept_effect is_selection is_directive option_named main_option switch_named list_named
    is_accepted is_older strip is_blank is_group_name is_word is_word_byte attr_named row_of row is_empty_name
taken_name = refl

no_line : line (codes "hello") ≡ Faulty BadLine
unfolding line line_effect directive_of kept_effect is_selection is_directive strip is_blank
no_line = refl

omitted : line (codes "@@include /x") ≡ Faulty LeftOut
unfolding line line_effect directive_of directive_by is_directive is_omitted strip is_blank
omitted = refl

unknown_word : line (codes "@@if version A") ≡ Faulty BadDirective
unfolding line line_effect directive_of directive_by condition is_directive is_omitted strip is_blank
unknown_word = refl

three_slashes : path_after (codes "///old") ≡ Some (codes "/old")
unfolding path_after
three_slashes = refl

four_slashes : path_after (codes "////old") ≡ Some (codes "//old")
unfolding path_after
four_slashes = refl

two_slashes : line (codes "database_in=file://host/old") ≡ Faulty BadUrl
unfolding line line_effect directive_of kept_effect value_effect is_selection is_directive option_named main_option strip is_blank
    is_left_out path_of path_after
two_slashes = refl

empty_older : line (codes "grouped=") ≡ Faulty BadValue
unfolding line line_effect directive_of kept_effect is_selection is_directive option_named main_option switch_named list_named
    is_accepted is_older strip is_blank
empty_older = refl

-- ---- settings of places

-- a used line, with no expression
at : List ℕ → Marked
at bytes =
    record {
      place = record { text = File; number = 1; line = Some bytes };
      used = true;
      depth = 0;
      divided = false;
      first = false;
      expanded = bytes;
      verdict = None;
    }

-- of three lines the last level before `report_url=stdout` counts
last_level : last_given level_in (counted
    (at (codes "report_level=minimal") ∷ at (codes "report_url=stdout") ∷ at (codes "report_level=summary") ∷ [])) ≡ Some Minimal
unfolding at last_given says line_effect directive_of kept_effect value_effect is_selection is_directive option_named main_option strip
    is_blank level_named
last_level = refl

last_of_two : last_given (switch_in Quiet) (at (codes "report_quiet=yes") ∷ at (codes "report_quiet=no") ∷ []) ≡ Some false
unfolding at last_given says line_effect directive_of kept_effect value_effect is_selection is_directive option_named main_option
    switch_named strip is_blank bool_named
last_of_two = refl

-- ---- faults of places

unknown_attribute : fault_at Check [] (record (at (codes "report_force_attrs=p+nope")) { verdict = Some (Err (UnknownName 2)) })
    ≡ Some UnknownAttribute
unfolding at fault_at fault_order has_fault says line_effect directive_of kept_effect value_effect is_selection is_directive
    option_named main_option switch_named list_named strip is_blank
unknown_attribute = refl

end_of_after : Marked
end_of_after =
    record {
      place = record { text = After; number = 1; line = None };
      used = true;
      depth = 0;
      divided = false;
      first = false;
      expanded = [];
      verdict = None;
    }

no_old : fault_at Compare [] end_of_after ≡ Some NoOldDatabase
unfolding end_of_after fault_at fault_order has_fault last_given says
no_old = refl

no_new : missing false true ≡ Some NoNewDatabase
no_new = refl

not_asked : fault_at Check [] end_of_after ≡ None
unfolding end_of_after fault_at fault_order has_fault
not_asked = refl

-- a block that is open at the end of its text, whatever else is missing there
open_block : fault_at Compare [] (record end_of_after { depth = 1 }) ≡ Some MissingEndif
unfolding end_of_after fault_at fault_order has_fault
open_block = refl

-- ---- directives

unused : List ℕ → Effect
unused bytes = line_effect false bytes bytes

-- a value is the rest of the line after its name
defined : line_effect true (codes "@@define V  a b") (codes "a b") ≡ DefinesVariable (codes "V") (codes "a b")
unfolding line_effect directive_of directive_by is_directive is_omitted strip is_blank is_word is_word_byte
defined = refl

no_variable : line (codes "@@define A=x") ≡ Faulty BadName
unfolding line line_effect directive_of directive_by is_directive is_omitted strip is_blank is_word is_word_byte
no_variable = refl

two_names : line (codes "@@ifdef A B") ≡ OpensBlock false
unfolding line line_effect directive_of directive_by is_directive is_omitted strip is_blank is_word is_word_byte
two_names = refl

-- in an unused part a name is not judged, a line is not read, and a word that begins with `if` is refused
unjudged : unused (codes "@@ifdef A B") ≡ OpensBlock true
unfolding unused line_effect directive_of directive_by is_directive is_omitted strip is_blank
unjudged = refl

unread : unused (codes "hello") ≡ Nothing
unfolding unused line_effect directive_of is_directive
unread = refl

passed_over : unused (codes "@@include /x") ≡ Nothing
unfolding unused line_effect directive_of directive_by is_directive is_omitted strip is_blank
passed_over = refl

if_host : unused (codes "@@ifhost h") ≡ Faulty LeftOut
unfolding unused line_effect directive_of directive_by is_directive is_omitted strip is_blank
if_host = refl

if_other : unused (codes "@@iffoo") ≡ Faulty BadDirective
unfolding unused line_effect directive_of directive_by is_directive is_omitted strip is_blank
if_other = refl

-- ---- faults of blocks

else_outside : fault_at Check [] (at (codes "@@else")) ≡ Some StrayElse
unfolding at fault_at fault_order has_fault says line_effect directive_of directive_by is_directive is_omitted strip is_blank
else_outside = refl

second_else : fault_at Check [] (record (at (codes "@@else")) { depth = 1; divided = true }) ≡ Some StrayElse
unfolding at fault_at fault_order has_fault says line_effect directive_of directive_by is_directive is_omitted strip is_blank
second_else = refl

endif_outside : fault_at Check [] (at (codes "@@endif now")) ≡ Some StrayEndif
unfolding at fault_at fault_order has_fault says line_effect directive_of directive_by is_directive is_omitted strip is_blank
endif_outside = refl

-- too deep comes before a bad name
thirty_third : fault_at Check [] (record (at (codes "@@ifdef")) { depth = 32 }) ≡ Some TooDeep
unfolding at fault_at fault_order has_fault says line_effect directive_of directive_by is_directive is_omitted strip is_blank is_word
    is_word_byte
thirty_third = refl

thirty_second : fault_at Check [] (record (at (codes "@@ifdef")) { depth = 31 }) ≡ Some BadName
unfolding at fault_at fault_order has_fault says line_effect directive_of directive_by is_directive is_omitted strip is_blank is_word
    is_word_byte
thirty_second = refl

-- ---- variables after some lines

sets_x : Marked
sets_x = record (at (codes "@@define A @@{B}")) { expanded = codes "x" }

-- the last line that sets it decides
value_of_two : variable (sets_x ∷ record sets_x { expanded = codes "y" } ∷ []) (codes "A") ≡ Some (codes "y")
unfolding sets_x at last_given says line_effect directive_of directive_by is_directive is_omitted strip is_blank is_word is_word_byte
value_of_two = refl

-- a line in an unused part sets nothing
value_of_unused : variable (sets_x ∷ record sets_x { used = false; expanded = codes "y" } ∷ []) (codes "A") ≡ Some (codes "x")
unfolding sets_x at last_given says line_effect directive_of directive_by is_directive is_omitted strip is_blank is_word is_word_byte
value_of_unused = refl

no_value_left : variable (sets_x ∷ at (codes "@@undef A") ∷ []) (codes "A") ≡ None
unfolding sets_x at last_given says line_effect directive_of directive_by is_directive is_omitted strip is_blank is_word is_word_byte
no_value_left = refl
