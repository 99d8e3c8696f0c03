use Rattle.aide_entry.proofs.ShapeLemmas.{time_beside}
use Rattle.aide_entry.proofs.shape.is_time_beside.Goals as goal

pub returns-then-eq : goal.returns-then-eq
returns-then-eq c = time_beside c.args.field.now c.args.time.now c.requires (cc) (cc)
