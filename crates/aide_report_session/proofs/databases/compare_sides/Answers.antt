use Rattle.std.proofs.Common.{arith}
use Rattle.aide_merge.specs.Asked.{asked}
use Rattle.aide_site.specs.Closing.{compared}
use Rattle.aide_site.specs.code.Parts.{named_by}
use Rattle.aide_report_session.proofs.RunParts.{compares_pair}
use Rattle.aide_report_session.proofs.databases.compare_sides.Goals as goal

pub returns-clause-closes : goal.returns-clause-closes
returns-clause-closes g c = λ wanted config pointed asks options_are.
    let devices = c.args.devices.now in
    let task = c.args.task.now in
    let run = c.run-end in
    record {
      closing = compared task.options run.result;
      named = named_by config (asked task);
      count = g.S.Sources.failures devices.site.now;
      later = omega arith;
      cause = (asks, options_are);
      status_is = c.put_end.ensures.status;
      does = compares_pair g.S.Sources g.W.Sink devices.site.now run.new.sources devices.out.now run.new.out devices.desk.now
          run.new.desk (asked task) config run.result pointed c.requires.room run.ensures;
      opens_some = run.ensures.opens_some;
      put = c.put_end.ensures.put config;
    }
