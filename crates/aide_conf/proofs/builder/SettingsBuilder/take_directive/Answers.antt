use Rattle.std.proofs.Common.{sym, ap, ◌≡◌, length, rules, true, false, Ok}
use Rattle.std.specs.Prelude.{if◌then◌else◌}
use Rattle.aide_conf.specs.declared.directive.Directive.TheVariants as code
use Rattle.aide_conf.specs.Directive.{set_effect, unset_effect}
use Rattle.aide_conf.specs.code.Replacing.{expansion_after}
use Rattle.aide_conf.specs.MarkedVariables.{value}
use Rattle.aide_conf.specs.Effect.{Nothing}
use Rattle.aide_conf.specs.code.Stack.{frames_of, top_used, top_divided}
use Rattle.aide_conf.proofs.Takes.{by_directive, nothing, answered_open, answered_other, answered_divide, answered_close}
use Rattle.aide_conf.proofs.Takes.{refused_if}
use Rattle.aide_conf.proofs.builder.SettingsBuilder.take_directive.Goals as goal

pub returns-then-used-clause-taken : goal.returns-then-used-clause-taken
returns-then-used-clause-taken g c =
    let fs = frames_of c.args.blocks.now in
    let u : top_used fs ≡ true = search rules in
    λ earlier s.
    let r = set_effect c.in-Define.name.now (expansion_after (value earlier) 0 c.in-Define.text.now) in
    by_directive earlier fs c.args.directive (code.Define c.in-Define.name c.in-Define.text) r c.define_variable.new.self
    c.define_variable.result c.in-Define.is
    (sym (ap (λ z. if z then r else Nothing) u)) (c.define_variable.ensures.taken earlier (length fs) (top_divided fs) s)

pub returns-else-used-clause-taken : goal.returns-else-used-clause-taken
returns-else-used-clause-taken g c =
    let fs = frames_of c.args.blocks.now in
    let u : top_used fs ≡ false = search rules in
    λ earlier s.
    let r = set_effect c.in-Define.name.now (expansion_after (value earlier) 0 c.in-Define.text.now) in
    by_directive earlier fs c.args.directive (code.Define c.in-Define.name c.in-Define.text) Nothing c.args.self.now (Ok tt) c.in-Define.is
    (sym (ap (λ z. if z then r else Nothing) u)) (nothing (Unit {0}) earlier (length fs) (top_divided fs) _ s tt)

pub returns-then-used-2-clause-taken : goal.returns-then-used-2-clause-taken
returns-then-used-2-clause-taken g c =
    let fs = frames_of c.args.blocks.now in
    let u : top_used fs ≡ true = search rules in
    λ earlier s.
    let r = unset_effect c.in-Undef.name.now in
    by_directive earlier fs c.args.directive (code.Undef c.in-Undef.name) r c.drop_variable.new.self c.drop_variable.result c.in-Undef.is
    (sym (ap (λ z. if z then r else Nothing) u)) (c.drop_variable.ensures.taken earlier (length fs) (top_divided fs) s)

pub returns-else-used-2-clause-taken : goal.returns-else-used-2-clause-taken
returns-else-used-2-clause-taken g c =
    let fs = frames_of c.args.blocks.now in
    let u : top_used fs ≡ false = search rules in
    λ earlier s.
    let r = unset_effect c.in-Undef.name.now in
    by_directive earlier fs c.args.directive (code.Undef c.in-Undef.name) Nothing c.args.self.now (Ok tt) c.in-Undef.is
    (sym (ap (λ z. if z then r else Nothing) u)) (nothing (Unit {0}) earlier (length fs) (top_divided fs) _ s tt)

pub returns-in-IfDef-clause-taken : goal.returns-in-IfDef-clause-taken
returns-in-IfDef-clause-taken g c = search (rules, by_directive, answered_open)

pub returns-in-IfNotDef-clause-taken : goal.returns-in-IfNotDef-clause-taken
returns-in-IfNotDef-clause-taken g c = search (rules, by_directive, answered_open)

pub returns-in-IfOther-clause-taken : goal.returns-in-IfOther-clause-taken
returns-in-IfOther-clause-taken g c = search (rules, by_directive, answered_other)

pub returns-in-Else-clause-taken : goal.returns-in-Else-clause-taken
returns-in-Else-clause-taken g c = search (rules, by_directive, answered_divide)

pub returns-in-EndIf-clause-taken : goal.returns-in-EndIf-clause-taken
returns-in-EndIf-clause-taken g c = search (rules, by_directive, answered_close)

pub returns-in-Omitted-clause-taken : goal.returns-in-Omitted-clause-taken
returns-in-Omitted-clause-taken g c = search (rules, by_directive, refused_if)

pub returns-in-Unknown-clause-taken : goal.returns-in-Unknown-clause-taken
returns-in-Unknown-clause-taken g c = search (rules, by_directive, refused_if)
