use Rattle.std.proofs.Common.{◌≡◌, rules, true, refl}
use Rattle.aide_attr.specs.Name.{is_word}
use Rattle.aide_conf.proofs.Takes.{unsets}
use Rattle.aide_conf.proofs.VariablesLemmas.{one_dropped}
use Rattle.aide_conf.proofs.builder.SettingsBuilder.drop_variable.Goals as goal

pub returns-clause-taken : goal.returns-clause-taken
returns-clause-taken g c =
    let w : is_word c.args.name.now ≡ true = search rules in
    λ earlier depth divided s. unsets (Unit {0}) earlier depth divided _ s tt c.args.name.now _ w (one_dropped _ _ _ c.remove.ensures) refl
