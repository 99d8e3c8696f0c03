use Rattle.std.proofs.Common.{rules, subst, ◌∙◌}
use Rattle.aide_conf.specs.code.Replacing.{expansion_after}
use Rattle.aide_conf.specs.code.Expanded.{IsExpandedLine}
use Rattle.aide_conf.specs.Cutting.{strip}
use Rattle.aide_conf.specs.MarkedVariables.{value}
use Rattle.aide_conf.specs.code.Returned.{effect_of}
use Rattle.aide_conf.proofs.VariableSteps.{values_are}
use Rattle.aide_conf.proofs.Takes.{skipped, too_long, kept_line, faulty}
use Rattle.aide_conf.proofs.builder.SettingsBuilder.take_plain.Goals as goal

pub returns-in-Ok-Skipped : goal.returns-in-Ok-Skipped
returns-in-Ok-Skipped g c = λ earlier depth divided s.
    let h = subst (λ f. IsExpandedLine (expansion_after f 0 c.args.line.now) c.in-Ok-Skipped.field-0)
    (values_are earlier _ s.variables) c.in-Ok-Skipped.ensures in
    let k = subst (IsExpandedLine (expansion_after (value earlier) 0 c.args.line.now)) c.in-Ok-Skipped.field-0-is h in
    skipped (Unit {0}) earlier depth divided _ s tt (strip (expansion_after (value earlier) 0 c.args.line.now)) k

pub returns-in-Ok-TooLong : goal.returns-in-Ok-TooLong
returns-in-Ok-TooLong g c = search (rules, values_are, too_long)

pub returns-in-Ok : goal.returns-in-Ok
returns-in-Ok g c = λ earlier depth divided s.
    let h = subst (λ f. IsExpandedLine (expansion_after f 0 c.args.line.now) c.in-Ok-Line.field-0)
    (values_are earlier _ s.variables) c.in-Ok-Line.ensures in
    let k = subst (IsExpandedLine (expansion_after (value earlier) 0 c.args.line.now)) c.in-Ok-Line.field-0-is h in
    kept_line (Unit {0}) earlier depth divided _ s (strip (expansion_after (value earlier) 0 c.args.line.now)) c.as_slice.result.now
    (effect_of c.in-Ok.effect) c.take_effect.new.self c.take_effect.result
    (c.as_slice.ensures.value ∙ k.0) k.1 k.2 c.in-Ok.ensures.says (c.take_effect.ensures earlier depth divided s)

pub returns : goal.returns
returns g c = search (rules, values_are, kept_line, faulty)
