use Rattle.aide_merge.specs.Asked.{asked}
use Rattle.aide_line_run.specs.ListView.{list_read}
use Rattle.aide_line_session.proofs.LineParts.{compares_pairs}
use Rattle.aide_line_session.proofs.line_databases.compare_pairs.Goals as goal

pub returns-clause-closes : goal.returns-clause-closes
returns-clause-closes g c = λ config pointed trusted_pointed options_are.
    let devices = c.args.devices.now in
    let ran = c.run_lines-end.new in
    let tasks = c.args.tasks.now in
    record {
      result = c.run_lines-end.result;
      status_is = c.put_end.ensures.status;
      put = c.put_end.ensures.put config;
      compares = compares_pairs g.S.Sources g.W.Sink g.E.Sink devices.site.now ran.sources c.args.pair.now.sources.now
          ran.trusted.sources.now devices.out.now ran.out devices.err.now c.put_end.new.err devices.desk.now ran.desk
          c.args.pair.now.desk.now ran.trusted.desk.now (list_read tasks.list) (asked tasks.compared.now)
          (asked tasks.trusted.now) config c.run_lines-end.result pointed trusted_pointed options_are
          c.requires.room c.requires.trusted_room c.run_lines-end.ensures.runs;
    }

pub returns-clause-lookups : goal.returns-clause-lookups
returns-clause-lookups g c = c.run_lines-end.ensures.runs.leaves.lookups

pub returns-clause-trusted_lookups : goal.returns-clause-trusted_lookups
returns-clause-trusted_lookups g c = c.run_lines-end.ensures.runs.trusted_leaves.lookups
