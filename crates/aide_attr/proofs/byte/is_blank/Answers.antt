use Rattle.std.proofs.Common.{ap, sym, ne_eqb}
use Rattle.std.specs.Prelude.{◌||◌, nat_eq}
use Rattle.aide_attr.specs.Byte.{is_blank}
use Rattle.aide_attr.proofs.byte.is_blank.Goals as goal

pub returns-else-byte-eq32 : goal.returns-else-byte-eq32
unfolding is_blank
returns-else-byte-eq32 c =
    sym (ap (λ b. b || nat_eq c.args.byte 9) (ne_eqb _ _ c.if-byte-eq32.false))
