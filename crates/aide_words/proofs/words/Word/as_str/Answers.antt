use Rattle.std.proofs.Common.{rules}
use Rattle.aide_words.proofs.words.Word.as_str.Goals as goal

pub returns : goal.returns
returns c = search rules
