use Rattle.aide_entry.proofs.Order.{first_follows}
use Rattle.aide_entry.specs.Columns.{columns_in}
use Rattle.aide_entry.proofs.entry.follows.Goals as goal

pub returns-then-is_first : goal.returns-then-is_first
returns-then-is_first c = first_follows (columns_in c.args.columns.now) c.args.last.now.line.now c.args.next.now.line.now (cc)
