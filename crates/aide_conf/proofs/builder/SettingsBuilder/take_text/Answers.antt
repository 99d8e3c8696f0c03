use Rattle.std.proofs.Common.{arith, ◌≡◌, ◌<◌, length, rules, ap, ◌∙◌}
use Rattle.aide_conf.specs.Cutting.{strip}
use Rattle.aide_conf.specs.code.Stack.{frames_of}
use Rattle.aide_conf.proofs.TextTaken.{starts, stop_line, take_line, stop_end, take_end, shorter}
use Rattle.aide_conf.proofs.builder.SettingsBuilder.take_text.Goals as goal

pub lines-init : goal.lines-init
lines-init g c = search (rules, starts)

pub returns-in-Err-clause-taken : goal.returns-in-Err-clause-taken
returns-in-Err-clause-taken g c =
    let k : 0 < length c.lines.rest.now = search rules in
    stop_line _ _ _ c.take_line.new.self _ (frames_of c.take_line.new.blocks) _ _ _ _ c.strip.result.now k
    (c.strip.ensures ∙ ap strip c.cut_line.ensures.line) c.lines.invariant.1 c.in-Err.kind
    (λ earlier s o. c.in-Err.ensures c.args.need earlier c.args.text c.lines.line s o)

pub lines-smaller : goal.lines-smaller
lines-smaller g c = search (rules, shorter)

pub lines-preserved : goal.lines-preserved
lines-preserved g c =
    let k : 0 < length c.lines.rest.now = search rules in (
      omega (arith, shorter c.lines.rest.now k, ap length c.cut_line.ensures.rest, c.lines.invariant.0),
      take_line _ _ _ c.take_line.new.self _ (frames_of c.take_line.new.blocks) _ _ _ _ c.strip.result.now k
          (c.strip.ensures ∙ ap strip c.cut_line.ensures.line) c.lines.invariant.1 c.in_default.field-0
          (λ earlier s o. c.in_default.ensures c.args.need earlier c.args.text c.lines.line s o) _ c.cut_line.ensures.rest,
    )

pub returns-in-Ok-clause-taken : goal.returns-in-Ok-clause-taken
returns-in-Ok-clause-taken g c =
    let k : length c.lines.rest.now ≡ 0 = search rules in
    take_end _ _ _ _ _ _ _ _ k c.lines.invariant.1 c.in-Ok.field-0 (λ earlier s o. c.in-Ok.ensures.taken earlier c.lines.line s o)

pub returns-clause-taken : goal.returns-clause-taken
returns-clause-taken g c =
    let k : length c.lines.rest.now ≡ 0 = search rules in
    stop_end _ _ _ _ _ _ _ _ k c.lines.invariant.1 c.in-Err-take_end.kind
    (λ earlier s o. c.in-Err-take_end.ensures.taken earlier c.lines.line s o)
