use Rattle.std.proofs.Common.{ap, sym}
use Rattle.aide_attr.specs.FileType.{letter_of}
use Rattle.aide_attr.proofs.file_type.FileType.letter.Goals as goal

pub returns-in-Socket : goal.returns-in-Socket
returns-in-Socket c = ap letter_of (sym c.in-Socket.is)
