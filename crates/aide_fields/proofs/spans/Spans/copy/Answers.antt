use Rattle.aide_fields.proofs.spans.Spans.copy.Goals as goal

pub returns : goal.returns
returns c = c.copy_front.ensures.same
