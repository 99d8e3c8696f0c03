use Rattle.std.proofs.Common.{rules}
use Rattle.aide_merge.proofs.CallLemmas.{merge_fault}
use Rattle.aide_line_run.specs.declared.walk.PairStop.TheVariants.{Trusted}
use Rattle.aide_line_run.proofs.SettleLemmas.{fits_kept, fits_then, rest_kept, stop_settled}
use Rattle.aide_line_run.proofs.WalkLemmas.{walked_err, walked_late}
use Rattle.aide_line_run.proofs.settle.put_all_accounted.Goals as goal

-- ---- a stop of the compared pair, or before its end

pub returns-in-Err-clause-fits : goal.returns-in-Err-clause-fits
returns-in-Err-clause-fits g c = fits_then c.put_accounted.ensures.keeps c.settle.ensures.fits

pub returns-in-Err-clause-walked : goal.returns-in-Err-clause-walked
returns-in-Err-clause-walked g c = walked_err c.in-Err.stop _ _ c.in-Err.ensures.walked

pub returns-in-Err-clause-fault : goal.returns-in-Err-clause-fault
returns-in-Err-clause-fault g c = search (rules, stop_settled)

-- ---- the rest of the trusted pair

pub returns-in-Ok-read_rest-clause-keeps : goal.returns-in-Ok-read_rest-clause-keeps
returns-in-Ok-read_rest-clause-keeps g c = rest_kept c.put_accounted.ensures.keeps c.read_rest.ensures.keeps

pub returns-in-Ok-read_rest-clause-fits : goal.returns-in-Ok-read_rest-clause-fits
returns-in-Ok-read_rest-clause-fits g c = fits_kept (rest_kept c.put_accounted.ensures.keeps c.read_rest.ensures.keeps)

pub returns-in-Err-read_rest-clause-fits : goal.returns-in-Err-read_rest-clause-fits
returns-in-Err-read_rest-clause-fits g c =
    fits_then (rest_kept c.put_accounted.ensures.keeps c.read_rest.ensures.keeps) c.settle-in-Err-read_rest.ensures.fits

pub returns-in-Err-read_rest-clause-walked : goal.returns-in-Err-read_rest-clause-walked
returns-in-Err-read_rest-clause-walked g c = walked_late c.in-Ok.counts _ _ c.in-Ok.ensures.walked

pub returns-in-Err-read_rest-clause-fault : goal.returns-in-Err-read_rest-clause-fault
returns-in-Err-read_rest-clause-fault g c =
    let settle = c.settle-in-Err-read_rest in
    stop_settled settle.new.merges settle.new.desk settle.new.trusted_desk c.put_accounted.new.pen
    (Trusted c.in-Err-read_rest.fault) settle.result (rest_kept c.put_accounted.ensures.keeps c.read_rest.ensures.keeps)
    (c.in-Ok.ensures.ended.writes_on, merge_fault c.put_accounted.ensures.keeps.trusted c.in-Err-read_rest.ensures.fault)
    (c.in-Ok.ensures.ended.ready, c.in-Err-read_rest.ensures.stopped) settle.ensures.first
