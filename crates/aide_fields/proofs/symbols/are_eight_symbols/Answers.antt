use Rattle.std.proofs.Common.{rules}
use Rattle.aide_fields.proofs.SymbolLemmas.{eight_symbols}
use Rattle.aide_fields.proofs.symbols.are_eight_symbols.Goals as goal

pub returns : goal.returns
returns c = search (rules, eight_symbols)
