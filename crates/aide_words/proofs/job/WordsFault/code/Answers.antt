use Rattle.std.proofs.Common.{rules}
use Rattle.aide_words.proofs.job.WordsFault.code.Goals as goal

pub returns-in-Memory : goal.returns-in-Memory
returns-in-Memory c = search rules
