use Rattle.std.proofs.Common.{sym, ap, ◌∙◌, ◌∷◌, ℕ}
use Rattle.aide_entry.proofs.KindLemmas.{slash_line}
use Rattle.aide_entry.proofs.line.kind_of.Goals as goal

pub returns-then-first-eq47 : goal.returns-then-first-eq47
returns-then-first-eq47 c =
    sym (slash_line c.args.line.now _ (c.in-Some.ensures.cases.0 ∙ ap (λ (b : ℕ). b ∷ c.in-Some.field-0-1.now) c.if-first-eq47.true))
