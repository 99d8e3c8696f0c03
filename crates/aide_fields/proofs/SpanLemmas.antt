-- The spans of the fields of a line.
use Rattle.std.proofs.Common.{append-nil, ◌≡◌, ℕ, ◌+◌, ◌-◌, ◌<◌, ◌≤◌, List, [], ◌∷◌, ◌++◌, length, take, drop, refl}
use Rattle.std.proofs.Common.{sym, ap, ◌∙◌, subst, true, false, arith, get_or, append_assoc, rules}
use Rattle.std.proofs.lemmas.Bool.{cases_lt}
use Rattle.std.proofs.lemmas.List.{length-append, length-take-le, length-drop, get_or-take, get_or-map, get_or-drop}
use Rattle.std.proofs.lemmas.List.{drop_more, drop_all, drop-drop, map-append, length-map}
use Rattle.aide_fields.specs.Text.{is_blank, fields}
use Rattle.aide_fields.specs.Spans.{field_at, fields_at}
use Rattle.aide_fields.specs.declared.span.Span.{Span}
use Rattle.aide_fields.proofs.FieldLemmas.{field_none, field_first_parts, skip_blank, no_field}

-- the field at the span of an index
pub span_at : (line : List ℕ) (ps : List Span) (count index : ℕ) (d : Span) → count ≤ length ps → index < count
    → fields_at line (take count ps) ≡ fields line
    → drop index (fields line) ≡ field_at line (get_or ps index d) ∷ drop (index + 1) (fields line)
span_at line ps count index d le lt e =
    let n : length (take count ps) ≡ count = length-take-le count ps le in
    let m : length (fields_at line (take count ps)) ≡ count = length-map (take count ps) (field_at line) ∙ n in
    let here : get_or (fields_at line (take count ps)) index (field_at line d) ≡ field_at line (get_or ps index d) =
    get_or-map (field_at line) (take count ps) index d (field_at line d) (omega (arith, n))
    ∙ ap (field_at line) (get_or-take count ps index d lt) in
    let cut = drop_more (fields_at line (take count ps)) index (field_at line d) (omega (arith, m))
    ∙ ap (λ f. f ∷ drop (index + 1) (fields_at line (take count ps))) here in
    subst (λ (fs : List (List ℕ)). drop index fs ≡ field_at line (get_or ps index d) ∷ drop (index + 1) fs) e cut

-- no field is left
pub none_left : (rest behind : List ℕ) (skip len : ℕ) → behind ≡ drop skip rest → skip ≤ length rest
    → ((k : ℕ) → k < skip → is_blank (get_or rest k 0) ≡ true)
    → (skip < length rest → is_blank (get_or rest skip 0) ≡ false)
    → len ≡ 0 → (len < length behind → is_blank (get_or behind len 0) ≡ true) → fields rest ≡ []
none_left rest behind skip len e le blanks stops zero goes = search (rules, cases_lt, length-drop, get_or-drop, field_none)

-- one span more
pub span_more : (line rest behind more : List ℕ) (ps : List Span) (at skip len : ℕ)
    → fields_at line ps ++ fields rest ≡ fields line → rest ≡ drop at line → behind ≡ drop skip rest
    → more ≡ drop len behind
    → ((k : ℕ) → k < skip → is_blank (get_or rest k 0) ≡ true)
    → (skip < length rest → is_blank (get_or rest skip 0) ≡ false)
    → len ≤ length behind → ((k : ℕ) → k < len → is_blank (get_or behind k 0) ≡ false)
    → (len < length behind → is_blank (get_or behind len 0) ≡ true) → (len ≡ 0 → ⊥)
    → (fields_at line (ps ++ record { start = at + skip; len = len } ∷ []) ++ fields more ≡ fields line)
    × (more ≡ drop (at + skip + len) line) × (fields rest ≡ take len behind ∷ fields more)
span_more line rest behind more ps at skip len found position e f blanks stops le each ends some =
    let lt : skip < length rest = omega (arith, some, ap length e, length-drop skip rest) in
    let cut : fields rest ≡ take len behind ∷ fields more =
    (field_first_parts rest behind (take len behind) more skip len e refl f lt blanks (stops lt) le each ends).0 in
    let here : behind ≡ drop (at + skip) line = e ∙ (ap (drop skip) position ∙ drop-drop skip at line) in
    let span : Span = record { start = at + skip; len = len } in
    let it : field_at line span ≡ take len behind = ap (take len) (sym here) in (
      ap (λ fs. fs ++ fields more) (map-append (field_at line) ps (span ∷ []))
          ∙ (append_assoc (fields_at line ps) (field_at line span ∷ []) (fields more)
          ∙ (ap (λ t. fields_at line ps ++ (t ∷ fields more)) it ∙ (ap (λ fs. fields_at line ps ++ fs) (sym cut) ∙ found))),
      f ∙ (ap (drop len) here ∙ drop-drop len (at + skip) line),
      cut,
    )

pub too_many : (line rest : List ℕ) (ps : List Span) (f : List ℕ) (fs : List (List ℕ))
    → fields_at line ps ++ fields rest ≡ fields line → fields rest ≡ f ∷ fs → length ps ≡ 64 → 64 < length (fields line)
too_many line rest ps f fs found cut full = search (rules, length-append, length-map)

-- as many spans as fields
pub spans_count : (line : List ℕ) (ps : List Span) → fields_at line ps ≡ fields line → length ps ≡ length (fields line)
spans_count line ps e = sym (length-map ps (field_at line)) ∙ ap length e

-- a blank is passed over
pub blank_passed : (line : List ℕ) (at : ℕ) → at < length line → is_blank (get_or line at 0) ≡ true
    → fields (drop at line) ≡ fields (drop (at + 1) line)
blank_passed line at lt blank =
    ap fields (drop_more line at 0 lt) ∙ skip_blank (get_or line at 0) (drop (at + 1) line) blank

-- a run of bytes that ends at a blank
pub run_field : (line : List ℕ) (ps : List Span) (from at : ℕ) → from < at → at < length line
    → ((k : ℕ) → from ≤ k → k < at → is_blank (get_or line k 0) ≡ false) → is_blank (get_or line at 0) ≡ true
    → fields_at line ps ++ fields (drop from line) ≡ fields line
    → (fields_at line (ps ++ record { start = from; len = at - from } ∷ []) ++ fields (drop (at + 1) line) ≡ fields line)
    × (fields (drop from line) ≡ take (at - from) (drop from line) ∷ fields (drop (at + 1) line))
run_field line ps from at lt short plain blank found =
    let rest = drop from line in
    let len = at - from in
    let here : (k : ℕ) → get_or rest k 0 ≡ get_or line (from + k) 0 = λ k. get_or-drop from line k 0 in
    let zero : from + 0 ≡ from = omega arith in
    let sum : from + len ≡ at = omega (arith, lt) in
    let size : len < length rest = omega (arith, lt, short, length-drop from line) in
    let first : is_blank (get_or rest 0 0) ≡ false = ap is_blank (here 0) ∙ plain (from + 0) (omega arith) (omega (arith, lt)) in
    let each : (k : ℕ) → k < len → is_blank (get_or rest k 0) ≡ false = λ k less. ap is_blank (here k)
    ∙ plain (from + k) (omega arith) (omega (arith, less)) in
    let end : is_blank (get_or rest len 0) ≡ true = ap is_blank (here len) ∙ (ap (λ n. is_blank (get_or line n 0)) sum ∙ blank) in
    let more = span_more line rest rest (drop len rest) ps from 0 len found refl refl refl (λ k less. absurd (omega (arith, less)))
    (λ _. first) (omega (arith, size)) each (λ _. end) (λ e. omega (arith, e, lt)) in
    let behind : fields (drop len rest) ≡ fields (drop (at + 1) line) = ap fields (drop-drop len from line ∙ ap (λ n. drop n line) sum)
    ∙ blank_passed line at short blank in (
      ap (λ n. fields_at line (ps ++ record { start = n; len = len } ∷ []) ++ fields (drop (at + 1) line)) (sym zero)
          ∙ (ap (λ fs. fields_at line (ps ++ record { start = from + 0; len = len } ∷ []) ++ fs) (sym behind) ∙ more.0),
      more.2 ∙ ap (λ fs. take len rest ∷ fs) behind,
    )

-- the last run of a line
pub last_field : (line : List ℕ) (ps : List Span) (from : ℕ) → from < length line
    → ((k : ℕ) → from ≤ k → k < length line → is_blank (get_or line k 0) ≡ false)
    → fields_at line ps ++ fields (drop from line) ≡ fields line
    → (fields_at line (ps ++ record { start = from; len = length line - from } ∷ []) ≡ fields line)
    × (fields (drop from line) ≡ take (length line - from) (drop from line) ∷ fields (drop (length line - from) (drop from line)))
last_field line ps from lt plain found =
    let rest = drop from line in
    let len = length line - from in
    let here : (k : ℕ) → get_or rest k 0 ≡ get_or line (from + k) 0 = λ k. get_or-drop from line k 0 in
    let zero : from + 0 ≡ from = omega arith in
    let size : length rest ≡ len = length-drop from line in
    let first : is_blank (get_or rest 0 0) ≡ false = ap is_blank (here 0) ∙ plain (from + 0) (omega arith) (omega (arith, lt)) in
    let each : (k : ℕ) → k < len → is_blank (get_or rest k 0) ≡ false = λ k less. ap is_blank (here k)
    ∙ plain (from + k) (omega arith) (omega (arith, less)) in
    let more = span_more line rest rest (drop len rest) ps from 0 len found refl refl refl (λ k less. absurd (omega (arith, less)))
    (λ _. first) (omega (arith, size)) each (λ less. absurd (omega (arith, less, size))) (λ e. omega (arith, e, lt)) in
    let behind : fields (drop len rest) ≡ [] = ap fields (drop_all len rest (omega (arith, size))) ∙ no_field in (
      ap (λ n. fields_at line (ps ++ record { start = n; len = len } ∷ [])) (sym zero)
          ∙ (sym (append-nil (fields_at line (ps ++ record { start = from + 0; len = len } ∷ [])))
          ∙ (ap (λ fs. fields_at line (ps ++ record { start = from + 0; len = len } ∷ []) ++ fs) (sym behind) ∙ more.0)),
      more.2,
    )
