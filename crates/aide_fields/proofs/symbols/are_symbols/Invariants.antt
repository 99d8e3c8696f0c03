use Rattle.std.proofs.Common.{◌≡◌, length}
use Rattle.std.specs.List.{list_all}
use Rattle.aide_fields.specs.code.Symbols.{is_symbol}
use Rattle.aide_fields.proofs.symbols.are_symbols.Given as goal

abbrev pub invariant-eights : goal.invariant-eights
invariant-eights l = list_all is_symbol l.bytes ≡ list_all is_symbol l.rest

abbrev pub decreases-eights : goal.decreases-eights
decreases-eights l = length l.rest
