use Rattle.std.proofs.Common.{rules}
use Rattle.aide_db.specs.declared.side.Side.TheVariants.{Old, New}
use Rattle.aide_merge.proofs.digests.changed_side.Goals as goal

pub returns-clause-same : goal.returns-clause-same
returns-clause-same g c Old list under text stands = search (rules, c.digest_of.ensures list under text stands)
returns-clause-same g c New list under text stands = search rules
