use Rattle.std.proofs.Common.{rules}
use Rattle.aide_attr.proofs.AttrLemmas.{digest_short}
use Rattle.aide_attr.proofs.attr.Attr.form.Goals as goal

pub returns-clause-same : goal.returns-clause-same
returns-clause-same c = c.row.ensures.form

pub returns-clause-short : goal.returns-clause-short
returns-clause-short c = search (rules, digest_short)
