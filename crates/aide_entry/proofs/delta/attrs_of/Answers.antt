use Rattle.std.proofs.Common.{sym, ◌≡◌, false, true, ◌∙◌, rules}
use Rattle.std.specs.List.{list_any}
use Rattle.aide_attr.specs.Attr.{all_attrs}
use Rattle.aide_attr.specs.Set.{is_attr}
use Rattle.aide_entry.specs.Columns.{columns_in}
use Rattle.aide_entry.proofs.AttrLoops.{listed}
use Rattle.aide_entry.proofs.ColumnAttrLemmas.{unlisted}
use Rattle.aide_entry.proofs.delta.attrs_of.Goals as goal

pub returns-then-same-clause-old : goal.returns-then-same-clause-old
returns-then-same-clause-old c =
    unlisted c.attrs-old_attrs.result.now (columns_in c.args.old.now.columns.now) c.args.old.now.line.now c.attrs-old_attrs.ensures

pub returns-then-same-clause-new : goal.returns-then-same-clause-new
returns-then-same-clause-new c = search (rules, unlisted)

pub returns-then-are_among-clause-old : goal.returns-then-are_among-clause-old
returns-then-are_among-clause-old c = search (rules, unlisted)

pub returns-then-are_among-clause-new : goal.returns-then-are_among-clause-new
returns-then-are_among-clause-new c =
    unlisted c.attrs-new_attrs.result.now (columns_in c.args.new.now.columns.now) c.args.new.now.line.now c.attrs-new_attrs.ensures

pub returns-then-are_among-2-clause-old : goal.returns-then-are_among-2-clause-old
returns-then-are_among-2-clause-old c =
    unlisted c.attrs-old_attrs.result.now (columns_in c.args.old.now.columns.now) c.args.old.now.line.now c.attrs-old_attrs.ensures

pub returns-then-are_among-2-clause-new : goal.returns-then-are_among-2-clause-new
returns-then-are_among-2-clause-new c = search (rules, unlisted)

pub returns-else-are_among-2-clause-old : goal.returns-else-are_among-2-clause-old
returns-else-are_among-2-clause-old c = λ attr none.
    let missing : list_any (is_attr attr) all_attrs ≡ false = none in
    let there : list_any (is_attr attr) all_attrs ≡ true = listed attr in
    let both : true ≡ false = sym there ∙ missing in
    cc

pub returns-else-are_among-2-clause-new : goal.returns-else-are_among-2-clause-new
returns-else-are_among-2-clause-new c = λ attr none.
    let missing : list_any (is_attr attr) all_attrs ≡ false = none in
    let there : list_any (is_attr attr) all_attrs ≡ true = listed attr in
    let both : true ≡ false = sym there ∙ missing in
    cc
