use Rattle.aide_db.proofs.HashLemmas.{no_digest, only_ended}
use Rattle.aide_db.proofs.cursor.Cursor.digest.Goals as goal

pub returns-in_default-clause-whole : goal.returns-in_default-clause-whole
returns-in_default-clause-whole g c =
    rw (← c.self.view_is) (λ list held text stands. no_digest c.self.inside.stage text c.in_default.not-Ended)

pub returns-in_default-clause-only : goal.returns-in_default-clause-only
returns-in_default-clause-only g c = rw (← c.self.view_is) (only_ended c.self.inside.stage c.in_default.not-Ended)
