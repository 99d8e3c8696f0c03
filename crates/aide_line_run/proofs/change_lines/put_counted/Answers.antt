use Rattle.std.proofs.Common.{◌∙◌, ◌^◌, ◌+◌, sym, ap, subst, is_some, arith}
use Rattle.aide_merge.specs.code.ChangeView.{change_of}
use Rattle.aide_line_run.specs.code.LineTally.{AreLinesBelow, with_account, with_entry, with_kind}
use Rattle.aide_text.specs.PenSheet.{on_sheet}
use Rattle.aide_line_run.proofs.LineLemmas.{line_of_one, line_of_none}
use Rattle.aide_line_run.proofs.PassLines.{entry_below, kind_below, wider}
use Rattle.aide_line_run.proofs.LineTallyLemmas.{listed, unlisted}
use Rattle.aide_text.proofs.Sheets.{wrote_as, wrote_nothing}
use Rattle.aide_line_run.proofs.change_lines.put_counted.Goals as goal

pub add_entry-requires : goal.add_entry-requires
add_entry-requires g c = wider c.args.counts.now (2 ^ 62) (2 ^ 63) (omega arith) c.requires

pub add_kind-requires : goal.add_kind-requires
add_kind-requires g c =
    let pair = (change_of c.args.change).1 in
    subst (λ n. AreLinesBelow n (2 ^ 63)) (sym c.add_entry.ensures)
    (wider (with_entry c.args.counts.now pair) (2 ^ 62 + 1) (2 ^ 63) (omega arith)
    (entry_below c.args.counts.now pair (2 ^ 62) c.requires))

pub add_account-requires : goal.add_account-requires
add_account-requires g c =
    let pair = (change_of c.args.change).1 in
    subst (λ n. AreLinesBelow n (2 ^ 63)) (sym (c.add_kind.ensures ∙ ap (λ n. with_kind n pair) c.add_entry.ensures))
    (wider (with_kind (with_entry c.args.counts.now pair) pair) (2 ^ 62 + 1 + 1) (2 ^ 63) (omega arith)
    (kind_below (with_entry c.args.counts.now pair) pair (2 ^ 62 + 1) (entry_below c.args.counts.now pair (2 ^ 62) c.requires)))

pub returns-in-Some-clause-counted : goal.returns-in-Some-clause-counted
returns-in-Some-clause-counted g c =
    let change = change_of c.args.change in
    c.add_account.ensures
    ∙ ap (λ n. with_account n c.args.account) (c.add_kind.ensures ∙ ap (λ n. with_kind n change.1) c.add_entry.ensures)
    ∙ listed c.args.options.now (λ any. c.args.account) c.args.counts.now change (sym c.letters.ensures.listed ∙ ap is_some c.in-Some.is)

pub returns-in-Some-clause-wrote : goal.returns-in-Some-clause-wrote
returns-in-Some-clause-wrote g c =
    wrote_as (line_of_one c.args.options.now (λ any. c.args.account) (change_of c.args.change)
    (sym c.letters.ensures.listed ∙ ap is_some c.in-Some.is))
    c.put_change_line.ensures

pub returns-in_default-clause-counted : goal.returns-in_default-clause-counted
returns-in_default-clause-counted g c =
    c.add_entry.ensures
    ∙ unlisted c.args.options.now (λ any. c.args.account) c.args.counts.now (change_of c.args.change)
    (sym c.letters.ensures.listed ∙ ap is_some c.in_default.is)

pub returns-in_default-clause-wrote : goal.returns-in_default-clause-wrote
returns-in_default-clause-wrote g c =
    wrote_as (line_of_none c.args.options.now (λ any. c.args.account) (change_of c.args.change)
    (sym c.letters.ensures.listed ∙ ap is_some c.in_default.is))
    (wrote_nothing (on_sheet g.W.Sink c.args.out.now c.args.pen.now))
