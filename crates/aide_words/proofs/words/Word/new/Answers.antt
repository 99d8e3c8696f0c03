use Rattle.std.proofs.Common.{rules}
use Rattle.aide_words.proofs.words.Word.new.Goals as goal

pub returns-in-Ok : goal.returns-in-Ok
returns-in-Ok c = search rules
