use Rattle.std.proofs.Common.{rules}
use Rattle.aide_line_run.proofs.SettleLemmas.{fits_none, walked_behind, walked_first, walked_found}
use Rattle.aide_line_run.proofs.WalkLemmas.{walked_err}
use Rattle.aide_line_run.proofs.write.put_changes.Goals as goal

pub returns-then-pen-clause-fits : goal.returns-then-pen-clause-fits
returns-then-pen-clause-fits g c = fits_none g.R.Reel c.args.merges.now c.args.desk.now c.args.trusted_desk.now

pub returns-then-pen-clause-walked : goal.returns-then-pen-clause-walked
returns-then-pen-clause-walked g c = search (rules, walked_first)

pub put_all_accounted-requires : goal.put_all_accounted-requires
put_all_accounted-requires g c = search rules

pub returns-in-Err-clause-walked : goal.returns-in-Err-clause-walked
returns-in-Err-clause-walked g c = search (rules, walked_behind, walked_err)

pub returns-clause-read : goal.returns-clause-read
returns-clause-read g c = search rules

pub returns-clause-walked : goal.returns-clause-walked
returns-clause-walked g c = search (rules, walked_behind, walked_found)
