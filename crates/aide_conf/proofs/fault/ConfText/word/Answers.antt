use Rattle.std.proofs.Common.{ap, sym}
use Rattle.aide_conf.specs.Fault.{text_word}
use Rattle.aide_conf.proofs.fault.ConfText.word.Goals as goal

pub returns-in-File : goal.returns-in-File
returns-in-File c = ap text_word (sym c.in-File.is)
