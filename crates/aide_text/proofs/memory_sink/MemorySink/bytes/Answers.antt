use Rattle.std.proofs.Common.{◌∙◌, ap}
use Rattle.aide_text.proofs.memory_sink.MemorySink.bytes.Goals as goal

pub returns : goal.returns
returns g c = c.as_slice.ensures.value ∙ ap (λ sink. sink.bytes) c.self.view_is
