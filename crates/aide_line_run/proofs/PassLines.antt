-- The lines that a pass has written, and the changes that it has met.
use Rattle.std.proofs.Common.{ℕ, ◌+◌, ◌≤◌}
use Rattle.std.proofs.Common.{arith}
use Rattle.std.specs.Prelude.{Some, None}
use Rattle.aide_agreement.specs.Account.{Pair}
use Rattle.aide_line_text.specs.declared.counts.LineCounts.{LineCounts}
use Rattle.aide_line_run.specs.code.LineTally.{AreLinesBelow, with_entry, with_kind}

-- ---- the counts of what was met are small

pub wider : (c : LineCounts) (m n : ℕ) → m ≤ n → AreLinesBelow c m → AreLinesBelow c n
wider c m n le small = record {
  total = omega (arith, le, small.total);
  added = omega (arith, le, small.added);
  removed = omega (arith, le, small.removed);
  changed = omega (arith, le, small.changed);
  same_as_old = omega (arith, le, small.same_as_old);
  same_as_trusted = omega (arith, le, small.same_as_trusted);
  left_out = omega (arith, le, small.left_out);
  others = omega (arith, le, small.others);
}

pub entry_below : (c : LineCounts) (pair : Pair) (n : ℕ) → AreLinesBelow c n → AreLinesBelow (with_entry c pair) (n + 1)
entry_below c (old, None) n small = wider c n (n + 1) (omega arith) small
entry_below c (old, Some new) n small = let wide = wider c n (n + 1) (omega arith) small in record {
  total = omega (arith, small.total);
  added = wide.added;
  removed = wide.removed;
  changed = wide.changed;
  same_as_old = wide.same_as_old;
  same_as_trusted = wide.same_as_trusted;
  left_out = wide.left_out;
  others = wide.others;
}

pub kind_below : (c : LineCounts) (pair : Pair) (n : ℕ) → AreLinesBelow c n → AreLinesBelow (with_kind c pair) (n + 1)
kind_below c (None, None) n small = wider c n (n + 1) (omega arith) small
kind_below c (None, Some new) n small = let wide = wider c n (n + 1) (omega arith) small in record {
  total = wide.total;
  added = omega (arith, small.added);
  removed = wide.removed;
  changed = wide.changed;
  same_as_old = wide.same_as_old;
  same_as_trusted = wide.same_as_trusted;
  left_out = wide.left_out;
  others = wide.others;
}
kind_below c (Some old, None) n small = let wide = wider c n (n + 1) (omega arith) small in record {
  total = wide.total;
  added = wide.added;
  removed = omega (arith, small.removed);
  changed = wide.changed;
  same_as_old = wide.same_as_old;
  same_as_trusted = wide.same_as_trusted;
  left_out = wide.left_out;
  others = wide.others;
}
kind_below c (Some old, Some new) n small = let wide = wider c n (n + 1) (omega arith) small in record {
  total = wide.total;
  added = wide.added;
  removed = wide.removed;
  changed = omega (arith, small.changed);
  same_as_old = wide.same_as_old;
  same_as_trusted = wide.same_as_trusted;
  left_out = wide.left_out;
  others = wide.others;
}
