use Rattle.std.proofs.Common.{◌≡◌, length}
use Rattle.std.specs.List.{list_all}
use Rattle.aide_fields.specs.code.Symbols.{is_symbol}
use Rattle.aide_fields.proofs.symbols.few_symbols.Given as goal

abbrev pub invariant-bytes : goal.invariant-bytes
invariant-bytes l = list_all is_symbol l.bytes ≡ list_all is_symbol l.rest

abbrev pub decreases-bytes : goal.decreases-bytes
decreases-bytes l = length l.rest
