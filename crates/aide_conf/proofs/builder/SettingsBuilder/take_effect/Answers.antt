use Rattle.std.proofs.Common.{rules, sym, ap, subst, Ok, Err, true}
use Rattle.aide_conf.specs.code.Returned.{effect_of}
use Rattle.aide_conf.specs.code.Builder.{TakesEffect}
use Rattle.aide_conf.specs.Effect.{SetsLevel, SetsSwitch, SetsAttributes}
use Rattle.aide_conf.proofs.Takes.{nothing, sets_level, turns, fixes_here, path_taken, lists, lists_misjudged, group_taken}
use Rattle.aide_conf.proofs.Takes.{defines_misjudged}
use Rattle.aide_conf.proofs.builder.SettingsBuilder.take_effect.Goals as goal

pub returns-in-Nothing : goal.returns-in-Nothing
returns-in-Nothing g c = λ earlier depth divided s. subst (λ r. TakesEffect {E = Unit {0}} earlier depth divided r c.args.self.now (Ok tt))
    (sym (ap effect_of c.in-Nothing.is))
    (nothing (Unit {0}) earlier depth divided _ s tt)

pub returns-in-NamesDatabase : goal.returns-in-NamesDatabase
returns-in-NamesDatabase g c = search (rules, path_taken)

pub returns-in-SetsLevel : goal.returns-in-SetsLevel
returns-in-SetsLevel g c = λ earlier depth divided s. subst
    (λ r. TakesEffect {E = Unit {0}} earlier depth divided r c.set_level.new.self (Ok tt)) (sym (ap effect_of c.in-SetsLevel.is))
    (subst (λ q. TakesEffect {E = Unit {0}} earlier depth divided (SetsLevel c.in-SetsLevel.level) q (Ok tt)) (sym c.set_level.ensures)
    (sets_level (Unit {0}) earlier depth divided _ s tt c.in-SetsLevel.level))

pub returns-in-SetsSwitch : goal.returns-in-SetsSwitch
returns-in-SetsSwitch g c = λ earlier depth divided s. subst
    (λ r. TakesEffect {E = Unit {0}} earlier depth divided r c.set_switch.new.self (Ok tt)) (sym (ap effect_of c.in-SetsSwitch.is))
    (subst (λ q. TakesEffect {E = Unit {0}} earlier depth divided (SetsSwitch c.in-SetsSwitch.switch c.in-SetsSwitch.on) q (Ok tt))
    (sym c.set_switch.ensures)
    (turns (Unit {0}) earlier depth divided _ s tt c.in-SetsSwitch.switch c.in-SetsSwitch.on))

pub returns-in-Ok : goal.returns-in-Ok
returns-in-Ok g c = λ earlier depth divided s. subst
    (λ r. TakesEffect {E = Unit {0}} earlier depth divided r c.set_attributes.new.self (Ok tt)) (sym (ap effect_of c.in-SetsAttributes.is))
    (subst (λ q. TakesEffect {E = Unit {0}} earlier depth divided (SetsAttributes c.in-SetsAttributes.list c.in-SetsAttributes.text.now) q
    (Ok tt)) (sym c.set_attributes.ensures)
    (lists (Unit {0}) earlier depth divided _ s tt c.in-SetsAttributes.list c.in-SetsAttributes.text.now c.in-Ok.set c.in-Ok.ensures.ok))

pub returns-in-Err : goal.returns-in-Err
returns-in-Err g c = λ earlier depth divided s. subst
    (λ r. TakesEffect {E = Unit {0}} earlier depth divided r c.args.self.now (Err c.in-Err.kind))
    (sym (ap effect_of c.in-SetsAttributes.is))
    (lists_misjudged (Unit {0}) earlier depth divided _ s c.in-SetsAttributes.list c.in-SetsAttributes.text.now c.in-Err.kind
    c.args.self.now c.in-Err.ensures.err)

pub returns-in-EndsOptions : goal.returns-in-EndsOptions
returns-in-EndsOptions g c = λ earlier depth divided s. subst
    (λ r. TakesEffect {E = Unit {0}} earlier depth divided r (record c.args.self.now { fixed = true }) (Ok tt))
    (sym (ap effect_of c.in-EndsOptions.is))
    (fixes_here (Unit {0}) earlier depth divided _ s tt)

pub returns-in-Ok-judge : goal.returns-in-Ok-judge
returns-in-Ok-judge g c = λ earlier depth divided s. subst
    (λ r. TakesEffect {E = Unit {0}} earlier depth divided r c.define_group.new.self c.define_group.result)
    (sym (ap effect_of c.in-DefinesGroup.is))
    (group_taken (Unit {0}) earlier depth divided _ s c.in-DefinesGroup.name.now c.in-DefinesGroup.text.now c.in-Ok-judge.set
    c.define_group.new.self c.define_group.result c.in-Ok-judge.ensures.ok c.define_group.ensures.ok c.define_group.ensures.err)

pub returns-in-Err-judge : goal.returns-in-Err-judge
returns-in-Err-judge g c = λ earlier depth divided s. subst
    (λ r. TakesEffect {E = Unit {0}} earlier depth divided r c.args.self.now (Err c.in-Err-judge.kind))
    (sym (ap effect_of c.in-DefinesGroup.is))
    (defines_misjudged (Unit {0}) earlier depth divided _ s c.in-DefinesGroup.name.now c.in-DefinesGroup.text.now c.in-Err-judge.kind
    c.args.self.now c.in-Err-judge.ensures.err)
