use Rattle.std.proofs.Common.{rules}
use Rattle.aide_conf.proofs.VariablesLemmas.{is_found}
use Rattle.aide_conf.proofs.builder.SettingsBuilder.is_defined.Goals as goal

pub returns : goal.returns
returns g c = search (rules, is_found)
