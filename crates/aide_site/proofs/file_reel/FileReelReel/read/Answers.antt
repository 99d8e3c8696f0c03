use Rattle.std.proofs.Common.{rules}
use Rattle.aide_site.proofs.file_reel.FileReelReel.read.Goals as goal

pub returns-in-Text-clause-end : goal.returns-in-Text-clause-end
returns-in-Text-clause-end c = search rules
