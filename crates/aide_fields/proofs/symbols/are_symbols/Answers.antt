use Rattle.std.proofs.Common.{rules}
use Rattle.aide_fields.proofs.SymbolLemmas.{symbols_behind}
use Rattle.aide_fields.proofs.symbols.are_symbols.Goals as goal

pub eights-preserved : goal.eights-preserved
eights-preserved c = search (rules, symbols_behind)
