use Rattle.std.proofs.Common.{rules, ◌∙◌, length-drop, ap}
use Rattle.std.proofs.lemmas.List.{take_rest}
use Rattle.aide_text.proofs.Sending.{Appends-Keeps, Appends-nothing, Appends-take}
use Rattle.aide_text.specs.Failures.{one_more}
use Rattle.aide_text.proofs.emitting.emit.Goals as goal

pub loop-at-preserved : goal.loop-at-preserved
loop-at-preserved g c = search (rules, take_rest, length-drop, Appends-take)

pub loop-at-init : goal.loop-at-init
loop-at-init g c = search (rules, Appends-nothing)

pub returns-in-Err-clause-cut : goal.returns-in-Err-clause-cut
returns-in-Err-clause-cut g c = search (rules, Appends-Keeps)

pub returns-in-Err-clause-fault : goal.returns-in-Err-clause-fault
returns-in-Err-clause-fault g c = c.in-Err.ensures.fault ∙ ap one_more c.loop-at.invariant.unfailed

pub returns-in-Err-clause-flushes : goal.returns-in-Err-clause-flushes
returns-in-Err-clause-flushes g c = c.write.ensures.flushes ∙ c.loop-at.invariant.unflushed

pub returns-clause-fault : goal.returns-clause-fault
returns-clause-fault g c = c.loop-at.invariant.unfailed

pub returns-clause-flushes : goal.returns-clause-flushes
returns-clause-flushes g c = c.loop-at.invariant.unflushed
