-- Laws of the definitions of a configuration.
use Rattle.std.proofs.Common.{ℕ, ◌≡◌, refl, List, Some, Result, Ok, Err}
use Rattle.std.specs.Prelude.{IsSome}
use Rattle.aide_conf.specs.declared.task.Need.{Need}
use Rattle.aide_conf.specs.declared.task.Need.TheVariants.{Compare}
use Rattle.aide_conf.specs.declared.fault.ConfFault.{ConfFault}
use Rattle.aide_conf.specs.declared.option_kind.OptionKind.TheVariants as option
use Rattle.aide_conf.specs.declared.options.Switch.{Switch}
use Rattle.aide_conf.specs.declared.options.Switch.TheVariants.{Grouped}
use Rattle.aide_conf.specs.declared.options.AttrList.{AttrList}
use Rattle.aide_conf.specs.declared.options.AttrList.TheVariants.{IgnoreAdded}
use Rattle.aide_conf.specs.Options.{switch_name, switch_named, list_name, list_named}
use Rattle.aide_conf.specs.Effect.{main_option, option_named}
use Rattle.aide_conf.specs.Blocks.{Seen, AreEnclosing}
use Rattle.aide_conf.specs.Settings.{Configured}
use Rattle.aide_conf.specs.ReadResult.{ReadsAs}
use Rattle.aide_conf.proofs.Depths.{one_depth}
use Rattle.aide_conf.proofs.Only.{only_settings, only_first_fault}
use Rattle.aide_conf.proofs.Exists.{reads_somehow}
use Rattle.aide_conf.proofs.Named.{both_named}

-- Every three texts, for either need, read as settings or have a first fault.
pub every_configuration_has_an_answer : (need : Need) (before file after : List ℕ)
    → (r : Result Configured ConfFault) × ReadsAs need before file after r
every_configuration_has_an_answer = reads_somehow

-- They have only one answer.
pub no_configuration_has_two_answers : (need : Need) (before file after : List ℕ) (r s : Result Configured ConfFault)
    → ReadsAs need before file after r → ReadsAs need before file after s → s ≡ r
no_configuration_has_two_answers need before file after (Ok c) s h i = only_settings need before file after c h s i
no_configuration_has_two_answers need before file after (Err e) s h i = only_first_fault need before file after e h s i

-- Those that are read to be compared name both databases.
pub what_is_compared_is_named : (before file after : List ℕ) (c : Configured) → ReadsAs Compare before file after (Ok c)
    → IsSome c.old_path × IsSome c.new_path
what_is_compared_is_named = both_named

-- The name of each switch sets this switch; the second line covers every further one.
pub name_of_a_switch_sets_it : (s : Switch) → option_named (switch_name s) ≡ Some (option.Flag s)
unfolding option_named main_option switch_named
name_of_a_switch_sets_it Grouped = refl
name_of_a_switch_sets_it _ = refl

-- So does the name of each set of attributes.
pub name_of_a_list_sets_it : (l : AttrList) → option_named (list_name l) ≡ Some (option.Attributes l)
unfolding option_named main_option switch_named list_named
name_of_a_list_sets_it IgnoreAdded = refl
name_of_a_list_sets_it _ = refl

-- So many lines enclose a line, and no other number of them.
pub a_line_has_one_depth : (m n : ℕ) (here : List Seen) → AreEnclosing m here → AreEnclosing n here → m ≡ n
a_line_has_one_depth = one_depth
