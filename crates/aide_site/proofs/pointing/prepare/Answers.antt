use Rattle.std.proofs.Common.{rules}
use Rattle.aide_site.proofs.Closings.{kept_then, old_is_not_new, told_side}
use Rattle.aide_site.proofs.HeldLemmas.{room_enough}
use Rattle.aide_site.proofs.pointing.prepare.Goals as goal

pub returns-in-Err-clause-keeps : goal.returns-in-Err-clause-keeps
returns-in-Err-clause-keeps g c = c.point_side.ensures.keeps

pub returns-in-Err-point_side-clause-keeps : goal.returns-in-Err-point_side-clause-keeps
returns-in-Err-point_side-clause-keeps g c = kept_then g.S.Sources _ _ _ c.point_side.ensures.keeps c.point_side-2.ensures.keeps

pub returns-in_default-reserve-clause-keeps : goal.returns-in_default-reserve-clause-keeps
returns-in_default-reserve-clause-keeps g c = kept_then g.S.Sources _ _ _ c.point_side.ensures.keeps c.point_side-2.ensures.keeps

pub returns-clause-keeps : goal.returns-clause-keeps
returns-clause-keeps g c = kept_then g.S.Sources _ _ _ c.point_side.ensures.keeps c.point_side-2.ensures.keeps

pub returns-clause-room : goal.returns-clause-room
returns-clause-room g c = room_enough _ c.in-Ok.ensures.room

pub returns-clause-pointed : goal.returns-clause-pointed
returns-clause-pointed g c = search (rules, told_side, old_is_not_new)
