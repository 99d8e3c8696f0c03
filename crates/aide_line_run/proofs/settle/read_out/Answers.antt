use Rattle.std.proofs.Common.{rules}
use Rattle.aide_merge.proofs.BoundLemmas.{fits_further}
use Rattle.aide_line_run.proofs.OneReadingLemmas.{ends_sound, settled_first}
use Rattle.aide_line_run.proofs.settle.read_out.Goals as goal

pub returns-in-Ok-clause-sound : goal.returns-in-Ok-clause-sound
returns-in-Ok-clause-sound g c side text s = ends_sound c.read_rest.ensures.keeps c.in-Ok.ensures.ended side text s

pub returns-in-Err-clause-fits : goal.returns-in-Err-clause-fits
returns-in-Err-clause-fits g c = search (rules, fits_further)

pub returns-in-Err-clause-fault : goal.returns-in-Err-clause-fault
returns-in-Err-clause-fault g c =
    settled_first c.read_rest.ensures.keeps c.in-Err.ensures.fault c.in-Err.ensures.stopped c.settled.ensures
