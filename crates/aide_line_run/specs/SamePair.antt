-- A trusted pair that is passed on.
use Rattle.std.specs.Prelude.{◌≡◌}
use Rattle.aide_line_run.specs.declared.run.TrustedPair.{TrustedPair}

-- it is read from the same sources, onto the same desk
pub record AreSamePair {S R A : Type 0} (m n : TrustedPair S A R) : Type 0 where
  pub desk : n.desk.ghost_name ≡ m.desk.ghost_name
  pub sources : n.sources.ghost_name ≡ m.sources.ghost_name
