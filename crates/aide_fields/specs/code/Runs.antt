-- How far the fields of a line have been found.
use Rattle.std.specs.Prelude.{ℕ, ◌≡◌, ◌≤◌, ◌<◌, ◌+◌, ◌++◌, true, false, List, take, drop}
use Rattle.std.specs.Prelude.{slice_index}
use Rattle.std.specs.Int.{bit_at}
use Rattle.aide_fields.specs.Text.{is_blank, fields}
use Rattle.aide_fields.specs.Spans.{fields_at}
use Rattle.aide_fields.specs.declared.runs.Found.{Found}
use Rattle.aide_fields.specs.declared.span.Span.{Span}

-- The first fields of a line have spans, and no blank is between the next field's beginning and `seen`.
pub record AreFound (line : List ℕ) (spans : List Span) (so_far : Found)
    (seen end : ℕ) : Type 0 where
  -- there are at most 64 spans
  pub few : so_far.count ≤ 64
  -- the next field, or the blanks before it, begin at `end` or before
  pub order : so_far.begin ≤ end
  -- the bytes from there on that were looked at are not blank
  pub plain : (k : ℕ) → so_far.begin ≤ k → k < seen → is_blank (slice_index line k) ≡ false
  -- the fields at these spans and the fields from there on are the fields of the line
  pub whole : fields_at line (take so_far.count spans) ++ fields (drop so_far.begin line)
      ≡ fields line

-- Bits mark the blanks from `begin` to `end`: bit k is set if the byte at `at` + k is blank.
pub record AreMarked (line : List ℕ) (begin at end bits : ℕ) : Type 0 where
  -- a byte without a mark is not blank
  pub each : (k : ℕ) → at + k < end → begin ≤ at + k → bit_at bits k ≡ 0
      → is_blank (slice_index line (at + k)) ≡ false
  -- a byte with a mark is a blank from `begin` to `end`
  pub marks : (k : ℕ) → bit_at bits k ≡ 1 → (at + k < end) × (begin ≤ at + k)
      × (is_blank (slice_index line (at + k)) ≡ true)
