use Rattle.std.proofs.Common.{rules}
use Rattle.aide_report.proofs.GivenLemmas.{gave_none}
use Rattle.aide_report.proofs.PassLemmas.{passes_count, passes_none, writes_same}
use Rattle.std.proofs.lemmas.Result.{on_ok_weaker}
use Rattle.aide_report.proofs.AgreementLemmas.{first_silent, first_full}
use Rattle.aide_report.proofs.ReportLemmas.{silent_text, full_text}
use Rattle.aide_text.proofs.Sheets.{some_nothing, wrote_nothing, wrote_as}
use Rattle.aide_report.proofs.report.put_report.Goals as goal

pub returns-then-is_silent : goal.returns-then-is_silent
returns-then-is_silent g c = record {
  passes = search (rules, passes_none);
  writes = λ old new told_old told_new. search (rules, wrote_as, silent_text, wrote_nothing);
  first = search (rules, first_silent);
  pen = search (rules, some_nothing);
  gave =
      gave_none (g.S.Sources.bytes_at c.args.sources.now) (g.S.Sources.openings c.args.sources.now) c.args.plan.now.finding.now.digests;
}

pub returns : goal.returns
returns g c = record {
  passes = search (rules, passes_count);
  writes = λ old new told_old told_new. search (rules, writes_same, full_text);
  first = search (rules, on_ok_weaker, first_full);
  pen = c.put_parts.ensures.pen;
  gave = search rules;
}
