use Rattle.std.proofs.Common.{refl}
use Rattle.aide_merge.specs.Asked.{asked}
use Rattle.aide_merge.proofs.KeepLemmas.{clears}
use Rattle.aide_text.specs.Failures.{Rose}
use Rattle.aide_line_run.specs.ListView.{list_read}
use Rattle.aide_line_run.proofs.ReadLemmas.{first_means, keeps_read}
use Rattle.aide_line_run.proofs.RunLemmas.{run_cut, run_refused, run_told}
use Rattle.aide_line_run.proofs.run.run_lines.Goals as goal

pub write_lines-written-requires : goal.write_lines-written-requires
write_lines-written-requires g c = record {
  ready = c.in-Ok.ensures.opened.opened.ready;
  trusted_ready = c.in-Ok.ensures.trusted_opened.opened.ready;
  within = c.in-Ok.ensures.opened.opened.within;
  trusted_within = c.in-Ok.ensures.trusted_opened.opened.within;
  short = c.in-Ok.ensures.opened.opened.short;
  writes_on = refl;
}

pub returns-in-Err-clause-runs : goal.returns-in-Err-clause-runs
returns-in-Err-clause-runs g c =
    run_refused c.args.limits (list_read c.args.tasks.now.list)
    (asked c.args.tasks.now.compared.now) (asked c.args.tasks.now.trusted.now) g.W.Sink
    (clears c.args.limits (g.S.Sources.bytes_of c.args.sources.now) c.args.desk.now c.clear.new.desk c.clear.ensures.old
    c.clear.ensures.new c.clear.ensures.peak c.clear.ensures.room)
    (clears c.args.limits (g.S.Sources.bytes_of c.args.trusted.now.sources.now) c.args.trusted.now.desk.now c.clear-2.new.desk
    c.clear-2.ensures.old c.clear-2.ensures.new c.clear-2.ensures.peak c.clear-2.ensures.room)
    c.open_four.ensures.keeps c.open_four.ensures.trusted_keeps c.args.out.now c.in-Err.fault c.in-Err.ensures.fault

pub returns-in-Ok-written-clause-runs : goal.returns-in-Ok-written-clause-runs
returns-in-Ok-written-clause-runs g c =
    let opened = c.in-Ok.ensures.opened in
    let trusted_opened = c.in-Ok.ensures.trusted_opened in
    let fits = c.write_lines-written.ensures.fits in
    rw c.outcome_of.ensures (run_told c.args.limits (list_read c.args.tasks.now.list)
    (asked c.args.tasks.now.compared.now) (asked c.args.tasks.now.trusted.now) g.W.Sink
    (clears c.args.limits (g.S.Sources.bytes_of c.args.sources.now) c.args.desk.now c.clear.new.desk c.clear.ensures.old
    c.clear.ensures.new c.clear.ensures.peak c.clear.ensures.room)
    (clears c.args.limits (g.S.Sources.bytes_of c.args.trusted.now.sources.now) c.args.trusted.now.desk.now c.clear-2.new.desk
    c.clear-2.ensures.old c.clear-2.ensures.new c.clear-2.ensures.peak c.clear-2.ensures.room)
    (keeps_read c.open_four.ensures.keeps opened.opened fits.room fits.fits c.close_both.ensures.keeps c.close_both.ensures.openings)
    (keeps_read c.open_four.ensures.trusted_keeps trusted_opened.opened fits.trusted_room fits.trusted_fits c.close_both-2.ensures.keeps
    c.close_both-2.ensures.openings)
    opened trusted_opened c.args.out.now c.write_lines-written.new.out c.in-Ok-written.found c.close_both.ensures.openings
    c.close_both-2.ensures.openings c.in-Ok-written.ensures.told c.in-Ok-written.ensures.sink)

pub returns-in-Err-written-clause-runs : goal.returns-in-Err-written-clause-runs
returns-in-Err-written-clause-runs g c =
    let opened = c.in-Ok.ensures.opened in
    let trusted_opened = c.in-Ok.ensures.trusted_opened in
    let fits = c.write_lines-written.ensures.fits in
    let first = c.in-Err-written.ensures.fault in
    let keeps = c.open_four.ensures.keeps in
    let trusted_keeps = c.open_four.ensures.trusted_keeps in
    let sink = Rose (g.W.Sink.failures c.args.out.now) (g.W.Sink.failures c.write_lines-written.new.out) in
    run_cut c.args.limits (list_read c.args.tasks.now.list)
    (asked c.args.tasks.now.compared.now) (asked c.args.tasks.now.trusted.now) g.W.Sink
    (clears c.args.limits (g.S.Sources.bytes_of c.args.sources.now) c.args.desk.now c.clear.new.desk c.clear.ensures.old
    c.clear.ensures.new c.clear.ensures.peak c.clear.ensures.room)
    (clears c.args.limits (g.S.Sources.bytes_of c.args.trusted.now.sources.now) c.args.trusted.now.desk.now c.clear-2.new.desk
    c.clear-2.ensures.old c.clear-2.ensures.new c.clear-2.ensures.peak c.clear-2.ensures.room)
    (keeps_read keeps opened.opened fits.room fits.fits c.close_both.ensures.keeps c.close_both.ensures.openings)
    (keeps_read trusted_keeps trusted_opened.opened fits.trusted_room fits.trusted_fits c.close_both-2.ensures.keeps
    c.close_both-2.ensures.openings)
    opened trusted_opened c.args.out.now c.write_lines-written.new.out c.in-Err-written.fault c.in-Err-written.ensures.cut first
    (first_means c.write_lines-written.new.merges sink keeps.sources opened keeps.desk.room
    c.close_both.ensures.keeps c.close_both.ensures.rose c.close_both.ensures.unfailed trusted_keeps.sources trusted_opened
    trusted_keeps.desk.room c.close_both-2.ensures.keeps c.close_both-2.ensures.rose c.close_both-2.ensures.unfailed
    c.in-Err-written.fault first)
    c.in-Err-written.ensures.sink
