use Rattle.std.proofs.Common.{◌≡◌, ◌∙◌, ℕ, List, Some, arith, refl, sym}
use Rattle.std.proofs.Math.Path.{subst}
use Rattle.aide_merge.specs.Asked.{asked}
use Rattle.aide_site.specs.Closing.{AsksToCompare}
use Rattle.aide_site.specs.Held.{IsPeakOf}
use Rattle.aide_site.specs.code.Parts.{named_by}
use Rattle.aide_site.proofs.Closings.{asks_over, closes_later, closes_starved, same_course, same_options}
use Rattle.aide_site.proofs.Endings.{same_some}
use Rattle.aide_site.proofs.HeldLemmas.{held_still}
use Rattle.aide_site.proofs.PointedLemmas.{pointed_later}
use Rattle.aide_site.proofs.PutLemmas.{appends_none}
use Rattle.aide_report_session.proofs.databases.compare.Goals as goal

pub returns-in-Err-clause-closes : goal.returns-in-Err-clause-closes
returns-in-Err-clause-closes g c = λ wanted config read. closes_starved g.T.Telling.says _ _ wanted _ _ _ _ _ _ _ _ _ _ _
    c.prepare.ensures.keeps.openings (appends_none _) refl refl c.put_memory_line.ensures

pub returns-clause-closes : goal.returns-clause-closes
returns-clause-closes g c = λ wanted config read.
    let devices = c.args.devices.now in
    let files = g.S.Sources.file_at devices.site.now in
    let kept = c.prepare.ensures.keeps in
    let ran = c.compare_sides.new.devices in
    let named = named_by config (asked c.in-Some.task) in
    let asks : AsksToCompare files wanted named = record
    { settings = c.args.settings.now; asks = read; old_is = c.in-Some.ensures.some.0; new_is = c.in-Some.ensures.some.1 } in
    closes_later g.T.Telling.says _ _ _ _ wanted _ _ _ _ _ _ _ _ kept.files kept.reliable
    (same_course g.S.Sources g.W.Sink devices.site.now c.prepare.new.site ran.site.now devices.out.now ran.out.now kept.openings)
    (let same = kept.failures in omega (arith, same))
    (c.compare_sides.ensures.closes wanted config (pointed_later _ _ _ _ _ kept.files c.in_default-prepare.ensures.pointed)
    (asks_over files _ wanted named kept.files asks) (same_options files _ wanted named kept.files asks ∙ sym c.in-Some.ensures.some.2))

pub returns-in-Err-clause-bound : goal.returns-in-Err-clause-bound
returns-in-Err-clause-bound g c = λ named a is. held_still (g.S.Sources.file_at c.args.devices.now.site.now) named _ _
    c.prepare.ensures.peak

pub returns-clause-bound : goal.returns-clause-bound
returns-clause-bound g c = λ named a is old new has_old has_new.
    let files = g.S.Sources.file_at c.args.devices.now.site.now in
    let settings = c.args.settings.now in
    let pointed = c.in_default-prepare.ensures.pointed in
    let old_path = same_some settings.old_path _ _ is.old_is c.in-Some.ensures.some.0 in
    let new_path = same_some settings.new_path _ _ is.new_is c.in-Some.ensures.some.1 in
    subst (λ (k : ℕ). IsPeakOf old new k c.compare_sides.new.devices.desk.now.peak) c.prepare.ensures.peak
    (c.compare_sides.ensures.bound old new
    (pointed.of_old (Some old) (subst (λ (path : List ℕ). files path ≡ Some (Some old)) old_path has_old))
    (pointed.of_new (Some new) (subst (λ (path : List ℕ). files path ≡ Some (Some new)) new_path has_new)))

pub compare_sides-requires : goal.compare_sides-requires
compare_sides-requires g c = record { room = c.in_default-prepare.ensures.room }
