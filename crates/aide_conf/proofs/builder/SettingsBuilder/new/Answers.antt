use Rattle.std.proofs.Common.{rules}
use Rattle.aide_conf.proofs.Starts.{groups_start, options_start, path_start}
use Rattle.aide_conf.proofs.VariableSteps.{variables_start}
use Rattle.aide_conf.proofs.VariablesLemmas.{none_defined}
use Rattle.aide_conf.proofs.builder.SettingsBuilder.new.Goals as goal

pub returns : goal.returns
returns g c = search (rules, groups_start, variables_start, none_defined, options_start, path_start)
