use Rattle.std.proofs.Common.{refl, rules}
use Rattle.aide_merge.proofs.CallLemmas.{merge_fault, merge_none, merge_then}
use Rattle.aide_line_run.proofs.walk.read_rest.Goals as goal

pub rest-init : goal.rest-init
rest-init g c = record { ready = c.requires; keeps = merge_none g.R.Reel c.args.merge.now c.args.desk.now }

pub read_due-requires : goal.read_due-requires
read_due-requires g c = c.rest.invariant.ready

pub returns-in-Err-clause-keeps : goal.returns-in-Err-clause-keeps
returns-in-Err-clause-keeps g c = merge_then c.rest.invariant.keeps c.read_due.ensures.keeps

pub returns-in-Err-clause-fault : goal.returns-in-Err-clause-fault
returns-in-Err-clause-fault g c = merge_fault c.rest.invariant.keeps c.in-Err.ensures.fault

pub returns-in-End-clause-keeps : goal.returns-in-End-clause-keeps
returns-in-End-clause-keeps g c =
    merge_then c.rest.invariant.keeps (merge_then c.read_due.ensures.keeps c.next.ensures.keeps)

pub returns-in-End-clause-ended : goal.returns-in-End-clause-ended
returns-in-End-clause-ended g c = c.in-End.ensures.step.ended refl

pub rest-preserved-in-Differs : goal.rest-preserved-in-Differs
rest-preserved-in-Differs g c = search (rules, merge_then)

pub rest-preserved : goal.rest-preserved
rest-preserved g c = search (rules, merge_then)
