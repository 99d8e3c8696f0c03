use Rattle.std.proofs.Common.{◌≡◌, map, drop}
use Rattle.aide_patterns.specs.Tests.{line_of}
use Rattle.aide_patterns.specs.Said.{rule_text}
use Rattle.aide_patterns.proofs.exclusions.line_of.Given as goal

abbrev pub invariant-loop-rule : goal.invariant-loop-rule
invariant-loop-rule l =
    line_of (map rule_text (drop l.rule-index l.rules)) l.path l.is_program
    ≡ line_of (map rule_text l.rules) l.path l.is_program
