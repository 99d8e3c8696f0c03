use Rattle.std.proofs.Common.{rules}
use Rattle.aide_words.proofs.words.Words.as_slice.Goals as goal

pub returns : goal.returns
returns c = search rules
