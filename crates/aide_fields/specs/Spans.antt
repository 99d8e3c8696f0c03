-- The spans of the fields of a line.
use Rattle.std.specs.Prelude.{ℕ, ◌≡◌, true, Option, None, Some, List, [], ◌∷◌, map, take, drop}
use Rattle.aide_fields.specs.Text.{fields, is_filled}
use Rattle.aide_fields.specs.declared.span.Span.{Span}
use Rattle.aide_fields.specs.declared.spans.Spans.{Spans}

-- the bytes of a span
abbrev pub field_at : List ℕ → Span → List ℕ
field_at line span = take span.len (drop span.start line)

-- the first spans of the array, as many as the count says
abbrev pub spans_in : Spans → List Span
spans_in s = take s.count s.spans

-- the bytes of these spans of a line
abbrev pub fields_at : List ℕ → List Span → List (List ℕ)
fields_at line spans = map (field_at line) spans

-- these are the spans of the line's fields, in their order
abbrev pub AreSpans : List ℕ → Spans → Type 0
AreSpans line s = fields_at line (spans_in s) ≡ fields line

-- if the list is not empty, these are the spans of its fields
abbrev pub AreHeldSpans : List ℕ → Spans → Type 0
AreHeldSpans list s = is_filled list ≡ true → AreSpans list s

-- the first field, if there is one
abbrev pub first_in : List (List ℕ) → Option (List ℕ)
first_in [] = None
first_in (field ∷ fields) = Some field
