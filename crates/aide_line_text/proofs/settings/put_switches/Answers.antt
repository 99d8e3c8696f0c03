use Rattle.std.proofs.Common.{sym, codes}
use Rattle.std.proofs.lemmas.List.{append-nil}
use Rattle.aide_json.specs.Value.{print_member, truth}
use Rattle.aide_text.proofs.Sheets.{wrote_more, wrote_as}
use Rattle.aide_line_text.proofs.settings.put_switches.Goals as goal

pub returns : goal.returns
returns g c =
    wrote_more c.put_truth.ensures (wrote_more c.put.ensures (wrote_more c.put_truth-2.ensures (wrote_more c.put-2.ensures
    (wrote_more c.put_truth-3.ensures (wrote_more c.put-3.ensures
    (wrote_as (sym (append-nil (print_member (codes "report_quiet", truth c.args.options.now.quiet)))) c.put_truth-4.ensures))))))
