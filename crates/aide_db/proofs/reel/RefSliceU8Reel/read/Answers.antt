use Rattle.std.proofs.Common.{rules}
use Rattle.std.proofs.lemmas.List.{take-append-drop, take-append-le, take_all}
use Rattle.aide_db.proofs.reel.RefSliceU8Reel.read.Goals as goal

pub returns-clause-bytes : goal.returns-clause-bytes
returns-clause-bytes c = search (rules, take-append-le, take_all, take-append-drop)
