use Rattle.std.proofs.Common.{rules}
use Rattle.std.proofs.lemmas.Bool.{cases_lt}
use Rattle.std.proofs.lemmas.List.{get_or_past}
use Rattle.aide_fields.proofs.BlankLemmas.{lane_blank}
use Rattle.aide_fields.proofs.blanks.blanks_at.Goals as goal

pub returns-clause-each : goal.returns-clause-each
returns-clause-each c = search (rules, lane_blank)

pub returns-clause-within : goal.returns-clause-within
returns-clause-within c = search (rules, cases_lt, get_or_past)
