use Rattle.std.proofs.Common.{rules}
use Rattle.aide_text.proofs.section.Section.is_asked.Goals as goal

pub returns-then-reaches : goal.returns-then-reaches
returns-then-reaches c = search rules
