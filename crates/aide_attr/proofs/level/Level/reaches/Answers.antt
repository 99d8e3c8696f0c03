use Rattle.std.proofs.Common.{ap, ◌∙◌}
use Rattle.std.specs.Prelude.{nat_le}
use Rattle.aide_attr.specs.Level.{rank}
use Rattle.aide_attr.proofs.level.Level.reaches.Goals as goal

pub returns : goal.returns
returns c =
    ap (λ n. nat_le n c.rank-2.result) c.rank.ensures ∙ ap (λ n. nat_le (rank c.args.other) n) c.rank-2.ensures
