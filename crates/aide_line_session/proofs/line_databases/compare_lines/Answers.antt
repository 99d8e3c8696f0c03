use Rattle.std.proofs.Common.{inr, rules}
use Rattle.aide_merge.specs.Asked.{asked}
use Rattle.aide_site.specs.code.Parts.{named_by}
use Rattle.aide_line_run.specs.ListView.{list_read}
use Rattle.aide_line_session.proofs.LineParts.{closes_seen, seen_pointed, trusted_later}
use Rattle.aide_site.proofs.PointedLemmas.{pointed_later}
use Rattle.aide_site.proofs.PutLemmas.{appends_none}
use Rattle.aide_line_session.proofs.line_databases.compare_lines.Goals as goal

pub returns-in-Err-clause-closes : goal.returns-in-Err-clause-closes
returns-in-Err-clause-closes g c = search (rules, appends_none)

pub returns-in-Err-prepare-clause-closes : goal.returns-in-Err-prepare-clause-closes
returns-in-Err-prepare-clause-closes g c = search (rules, appends_none)

pub returns-clause-closes : goal.returns-clause-closes
returns-clause-closes g c = λ config same.
    let first = c.prepare.ensures in
    let second = c.prepare-2.ensures in
    let devices = c.args.devices.now in
    let ran = c.compare_pairs.new in
    let tasks = c.args.tasks.now in
    let wish = asked tasks.compared.now in
    let trusted_wish = asked tasks.trusted.now in
    inr (closes_seen (list_read tasks.list) (named_by config wish) (named_by config trusted_wish) tasks.compared.now.options _ _ _ _ _ _
    first.keeps.failures
    (seen_pointed g.S.Sources g.W.Sink g.E.Sink ran.devices.site.now ran.pair.sources.now devices.out.now ran.devices.out.now
    devices.err.now ran.devices.err.now devices.site.now c.prepare.new.site c.args.trusted.now.site c.prepare-2.new.site _ _ _ _ _ _
    first.keeps second.keeps first.peak second.peak)
    (c.compare_pairs.ensures.closes config
    (pointed_later _ _ wish _ _ first.keeps.files c.in_default.ensures.pointed)
    (trusted_later _ _ trusted_wish _ _ second.keeps.files c.in_default-prepare.ensures.pointed) same))

pub compare_pairs-requires : goal.compare_pairs-requires
compare_pairs-requires g c = search rules
