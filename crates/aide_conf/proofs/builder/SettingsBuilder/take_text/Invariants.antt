use Rattle.std.proofs.Common.{◌≤◌, ◌+◌, length}
use Rattle.aide_conf.specs.Cutting.{places_from, places_of, lines_of}
use Rattle.aide_conf.specs.code.Stack.{frames_of}
use Rattle.aide_conf.proofs.TextTaken.{Going}
use Rattle.aide_conf.proofs.builder.SettingsBuilder.take_text.Given as goal

abbrev pub invariant-lines : goal.invariant-lines
invariant-lines g l =
    (l.line + length l.rest ≤ length l.bytes + 1) × Going l.need l.text l.initial.self l.self (frames_of l.blocks)
    (places_of l.text l.bytes) (places_from l.text l.line (lines_of l.rest))

abbrev pub decreases-lines : goal.decreases-lines
decreases-lines g l = length l.rest
