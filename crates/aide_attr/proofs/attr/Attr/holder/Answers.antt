use Rattle.std.proofs.Common.{ap, sym, ◌∙◌, eq-eqb, ne_eqb, rules}
use Rattle.std.specs.Prelude.{if◌then◌else◌, Bool}
use Rattle.aide_attr.specs.declared.attr.Attr.TheVariants.{Ftype}
use Rattle.aide_attr.proofs.attr.Attr.holder.Goals as goal

pub returns-then-index : goal.returns-then-index
returns-then-index c =
    sym (ap (λ (b : Bool). if b then Ftype else c.args.self) (eq-eqb _ _ (sym c.index.ensures ∙ c.if-index.true ∙ c.index-2.ensures)))

pub returns-else-index : goal.returns-else-index
returns-else-index c = search (rules, ne_eqb)
