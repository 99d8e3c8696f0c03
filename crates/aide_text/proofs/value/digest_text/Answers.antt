use Rattle.std.proofs.Common.{rules}
use Rattle.std.proofs.Common.{ap, sym, ◌∙◌}
use Rattle.aide_text.specs.ValueText.{digest_text}
use Rattle.aide_text.proofs.value.digest_text.Goals as goal

pub returns-then-base16 : goal.returns-then-base16
unfolding digest_text
returns-then-base16 c = c.hex_of.ensures ∙ ap (λ base16. digest_text base16 c.args.bytes.now) (sym c.if-base16.true)

pub returns-else-base16 : goal.returns-else-base16
unfolding digest_text
returns-else-base16 c = search (rules)
