use Rattle.std.proofs.Common.{◌∙◌}
use Rattle.aide_line_run.proofs.ReadLemmas.{first_read, keeps_begun, keeps_read, sound_there}
use Rattle.aide_line_run.proofs.opening.open_four.Goals as goal

pub read_out-rest-requires : goal.read_out-rest-requires
read_out-rest-requires g c =
    let opened = c.start-compared.ensures.opened (g.S.Sources.bytes_of c.args.sources.now) c.in-Ok.ensures.gives in opened.ready

pub returns-in-Ok-open_in_order-clause-keeps : goal.returns-in-Ok-open_in_order-clause-keeps
returns-in-Ok-open_in_order-clause-keeps g c =
    keeps_begun c.in-Ok.ensures.reads (c.start-compared.ensures.desk (g.S.Sources.bytes_of c.args.sources.now))

pub returns-in-Ok-open_in_order-clause-trusted_keeps : goal.returns-in-Ok-open_in_order-clause-trusted_keeps
returns-in-Ok-open_in_order-clause-trusted_keeps g c =
    keeps_begun c.in-Ok-open_in_order.ensures.reads (c.start-merge.ensures.desk (g.S.Sources.bytes_of c.args.trusted.now))

pub returns-in-Ok-open_in_order-clause-opened : goal.returns-in-Ok-open_in_order-clause-opened
returns-in-Ok-open_in_order-clause-opened g c = record {
  opened = c.start-compared.ensures.opened (g.S.Sources.bytes_of c.args.sources.now) c.in-Ok.ensures.gives;
  there = c.in-Ok.ensures.there;
  opens = c.in-Ok.ensures.reads.opens;
}

pub returns-in-Ok-open_in_order-clause-trusted_opened : goal.returns-in-Ok-open_in_order-clause-trusted_opened
returns-in-Ok-open_in_order-clause-trusted_opened g c = record {
  opened = c.start-merge.ensures.opened (g.S.Sources.bytes_of c.args.trusted.now) c.in-Ok-open_in_order.ensures.gives;
  there = c.in-Ok-open_in_order.ensures.there;
  opens = c.in-Ok-open_in_order.ensures.reads.opens;
}

pub returns-in-Ok-rest-clause-keeps : goal.returns-in-Ok-rest-clause-keeps
returns-in-Ok-rest-clause-keeps g c =
    let bytes_of = g.S.Sources.bytes_of c.args.sources.now in
    keeps_read (keeps_begun c.in-Ok.ensures.reads (c.start-compared.ensures.desk bytes_of))
    (c.start-compared.ensures.opened bytes_of c.in-Ok.ensures.gives) c.read_out-rest.ensures.room c.read_out-rest.ensures.fits
    c.close_both.ensures.keeps c.close_both.ensures.openings

pub returns-in-Ok-rest-clause-fault : goal.returns-in-Ok-rest-clause-fault
returns-in-Ok-rest-clause-fault g c = (
  c.in-Err-open_in_order.ensures.reads.fault,
  sound_there c.in-Ok.ensures.there (c.start-compared.ensures.opened (g.S.Sources.bytes_of c.args.sources.now) c.in-Ok.ensures.gives)
      c.in-Ok-rest.ensures.sound,
)

pub returns-in-Err-rest-clause-keeps : goal.returns-in-Err-rest-clause-keeps
returns-in-Err-rest-clause-keeps g c =
    let bytes_of = g.S.Sources.bytes_of c.args.sources.now in
    keeps_read (keeps_begun c.in-Ok.ensures.reads (c.start-compared.ensures.desk bytes_of))
    (c.start-compared.ensures.opened bytes_of c.in-Ok.ensures.gives) c.read_out-rest.ensures.room c.read_out-rest.ensures.fits
    c.close_both.ensures.keeps c.close_both.ensures.openings

pub returns-in-Err-rest-clause-fault : goal.returns-in-Err-rest-clause-fault
returns-in-Err-rest-clause-fault g c =
    let reads = c.in-Ok.ensures.reads in
    let desk = c.start-compared.ensures.desk (g.S.Sources.bytes_of c.args.sources.now) in
    first_read c.in-Err-rest.first reads.sources (record {
      opened = c.start-compared.ensures.opened (g.S.Sources.bytes_of c.args.sources.now) c.in-Ok.ensures.gives;
      there = c.in-Ok.ensures.there;
      opens = reads.opens;
    }) (desk.room ∙ reads.desk.room) c.close_both.ensures.keeps c.close_both.ensures.rose c.close_both.ensures.unfailed
    c.in-Err-rest.ensures.fault
