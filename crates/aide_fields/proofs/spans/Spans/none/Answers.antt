use Rattle.std.proofs.Common.{refl}
use Rattle.aide_fields.proofs.spans.Spans.none.Goals as goal

pub returns : goal.returns
returns c = refl
