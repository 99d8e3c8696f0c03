use Rattle.std.proofs.Common.{rules}
use Rattle.aide_fields.proofs.BlankLemmas.{found_below, found_all}
use Rattle.aide_fields.proofs.runs.runs_among.Goals as goal

pub run_ends-requires-clause-found : goal.run_ends-requires-clause-found
run_ends-requires-clause-found c = search (rules, found_below)

pub returns-clause-found : goal.returns-clause-found
returns-clause-found c = search (rules, found_all)
