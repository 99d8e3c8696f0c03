use Rattle.std.proofs.Common.{rules}
use Rattle.std.proofs.lemmas.Bool.{leb-true}
use Rattle.aide_entry.proofs.SpecLineLemmas.{if_distinct}
use Rattle.aide_entry.proofs.spec_line.are_columns.Goals.{then-columns-le64, else-columns-le64}
use Rattle.aide_entry.proofs.spec_line.are_columns.Goals as goal

pub returns-then-stands_in : goal.returns-then-stands_in
returns-then-stands_in c = search (rules, then-columns-le64, if_distinct, else-columns-le64, leb-true)
