use Rattle.aide_attr.specs.Attr.{attrs_at}
use Rattle.aide_attr.proofs.DifferenceLemmas.{meets}
use Rattle.aide_attr.proofs.summary_string.SummarySlot.meets.Goals as goal

pub returns : goal.returns
returns c =
    meets c.args.set c.args.self.attrs c.common.result (attrs_at c.args.self.letter) c.is_empty.result c.args.self.whole c.common.ensures
    c.is_empty.ensures
