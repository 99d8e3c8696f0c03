-- Lines of a configuration with more than one fault, and the one that is reported.
use Rattle.std.proofs.Common.{ℕ, ◌≡◌, true, false, List, [], length, Some, None, refl}
use Rattle.std.specs.Prelude.{codes}
use Rattle.aide_attr.specs.Name.{is_word, is_word_byte}
use Rattle.aide_conf.specs.declared.task.Need.TheVariants.{Check}
use Rattle.aide_conf.specs.declared.fault.ConfText.TheVariants.{File}
use Rattle.aide_conf.specs.declared.fault.ConfFaultKind.TheVariants.{BadDirective, LeftOut, TooDeep, BadName, BadValue, BadUrl}
use Rattle.aide_conf.specs.Cutting.{is_blank, strip}
use Rattle.aide_conf.specs.Effect.{is_accepted, is_directive, is_left_out, is_older, is_omitted, is_selection}
use Rattle.aide_conf.specs.Options.{switch_named, list_named}
use Rattle.aide_conf.specs.Effect.{kept_effect, main_option, path_of, option_named, value_effect}
use Rattle.aide_conf.specs.Directive.{line_effect, directive_of, directive_by, condition}
use Rattle.aide_conf.specs.Marks.{Marked, says}
use Rattle.aide_conf.specs.FaultOrder.{fault_at, fault_order, has_fault}

-- every kind of fault except out of memory
all_of_them : length fault_order ≡ 17
unfolding fault_order
all_of_them = refl

-- a used line that so many lines enclose, with no expression
at : ℕ → List ℕ → Marked
at depth bytes =
    record {
      place = record { text = File; number = 1; line = Some bytes };
      used = true;
      depth = depth;
      divided = false;
      first = false;
      expanded = bytes;
      verdict = None;
    }

-- an option that is left out, without a value
older_left_out : has_fault Check [] (at 0 (codes "grouped=")) LeftOut ≡ true
unfolding at has_fault directive_of is_directive is_selection option_named main_option switch_named list_named is_accepted is_older
    strip is_blank
older_left_out = refl

older_empty : has_fault Check [] (at 0 (codes "grouped=")) BadValue ≡ true
unfolding at has_fault directive_of is_directive is_selection option_named main_option switch_named list_named is_accepted is_older
    strip is_blank
older_empty = refl

empty_told : fault_at Check [] (at 0 (codes "grouped=")) ≡ Some BadValue
unfolding at fault_at fault_order has_fault says line_effect directive_of kept_effect is_selection is_directive option_named
    main_option switch_named list_named is_accepted is_older strip is_blank
empty_told = refl

-- a URL that is left out leads to no path
stdin_left_out : has_fault Check [] (at 0 (codes "database_in=stdin")) LeftOut ≡ true
unfolding at has_fault directive_of is_directive is_selection option_named main_option strip is_blank is_left_out
stdin_left_out = refl

stdin_no_path : has_fault Check [] (at 0 (codes "database_in=stdin")) BadUrl ≡ true
unfolding at has_fault directive_of is_directive is_selection option_named main_option strip is_blank path_of
stdin_no_path = refl

left_out_told : fault_at Check [] (at 0 (codes "database_in=stdin")) ≡ Some LeftOut
unfolding at fault_at fault_order has_fault says line_effect directive_of kept_effect value_effect is_selection is_directive
    option_named main_option strip is_blank is_left_out
left_out_told = refl

-- a block with a bad name, and one with a condition of a wrong form, in 32 others
name_bad : has_fault Check [] (at 32 (codes "@@ifdef A B")) BadName ≡ true
unfolding at has_fault directive_of directive_by is_directive is_omitted strip is_blank is_word is_word_byte
name_bad = refl

depth_told : fault_at Check [] (at 32 (codes "@@ifdef A B")) ≡ Some TooDeep
unfolding at fault_at fault_order has_fault says line_effect directive_of directive_by is_directive is_omitted strip is_blank is_word
    is_word_byte
depth_told = refl

condition_deep : has_fault Check [] (at 32 (codes "@@if version A")) TooDeep ≡ true
unfolding at has_fault directive_of directive_by condition is_directive is_omitted strip is_blank
condition_deep = refl

condition_told : fault_at Check [] (at 32 (codes "@@if version A")) ≡ Some BadDirective
unfolding at fault_at fault_order has_fault says line_effect directive_of directive_by condition is_directive is_omitted strip is_blank
condition_told = refl
