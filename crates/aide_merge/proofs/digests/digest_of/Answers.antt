use Rattle.std.proofs.Common.{◌∙◌, ap}
use Rattle.aide_db.specs.Hashed.{digest_at}
use Rattle.aide_merge.proofs.digests.digest_of.Goals as goal

pub returns-in-Some : goal.returns-in-Some
returns-in-Some g c list under text stands =
    let is = c.digest.ensures.whole list under text stands ∙ ap (λ stage. digest_at stage text) c.requires in cc

pub returns-in-None : goal.returns-in-None
returns-in-None g c list under text stands =
    let is = c.digest.ensures.whole list under text stands ∙ ap (λ stage. digest_at stage text) c.requires in cc
