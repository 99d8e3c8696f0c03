use Rattle.std.proofs.Common.{subst, ap, ◌∙◌, ◌≡◌, rules, true, refl}
use Rattle.aide_attr.specs.Name.{is_word}
use Rattle.aide_conf.specs.code.Replacing.{expansion_after}
use Rattle.aide_conf.specs.code.Expanded.{IsExpandedValue}
use Rattle.aide_attr.specs.NameMapFault.{IsNameMapFault}
use Rattle.aide_conf.specs.MarkedVariables.{value}
use Rattle.std.specs.FinMap.{insert}
use Rattle.aide_conf.specs.code.Variables.{values_of}
use Rattle.aide_conf.proofs.VariableSteps.{values_are}
use Rattle.aide_conf.proofs.VariablesLemmas.{has_space, is_full, one_defined}
use Rattle.aide_conf.proofs.Takes.{set_too_long, sets, no_space_to_set}
use Rattle.aide_conf.proofs.builder.SettingsBuilder.define_variable.Goals as goal

pub returns-in-Ok-None-clause-taken : goal.returns-in-Ok-None-clause-taken
returns-in-Ok-None-clause-taken g c = search (rules, values_are, set_too_long)

pub returns-in-Ok-clause-taken : goal.returns-in-Ok-clause-taken
returns-in-Ok-clause-taken g c =
    let w : is_word c.args.name.now ≡ true = search rules in
    λ earlier depth divided s.
    let h = subst (λ f. IsExpandedValue (expansion_after f 0 c.args.text.now) c.in-Ok-Some.field-0)
    (values_are earlier _ s.variables) c.in-Ok-Some.ensures in
    let k = subst (IsExpandedValue (expansion_after (value earlier) 0 c.args.text.now)) c.in-Ok-Some.field-0-is h in
    sets (Unit {0}) earlier depth divided _ s tt c.args.name.now (expansion_after (value earlier) 0 c.args.text.now) _ w k.1
    (has_space _ _ c.in-Ok.ensures.space)
    (one_defined _ _ _ c.in-Ok-Some.value c.in-Ok.ensures.ok ∙ ap (insert (values_of c.args.self.now.variables) c.args.name.now) k.0) refl

pub returns-in-Err-Full-clause-taken : goal.returns-in-Err-Full-clause-taken
returns-in-Err-Full-clause-taken g c =
    let w : is_word c.args.name.now ≡ true = search rules in
    λ earlier depth divided s.
    let h = subst (λ f. IsExpandedValue (expansion_after f 0 c.args.text.now) c.in-Ok-Some.field-0)
    (values_are earlier _ s.variables) c.in-Ok-Some.ensures in
    let k = subst (IsExpandedValue (expansion_after (value earlier) 0 c.args.text.now)) c.in-Ok-Some.field-0-is h in
    no_space_to_set (Unit {0}) earlier depth divided _ s c.args.name.now
    (expansion_after (value earlier) 0 c.args.text.now) c.args.self.now w k.1
    (is_full _ _ (subst (IsNameMapFault c.args.self.now.variables c.args.name.now) c.in-Err-Full.field-0-is c.in-Err-Full.ensures.err))
