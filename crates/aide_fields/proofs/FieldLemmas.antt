-- The fields of a line, cut at its first one.
use Rattle.std.proofs.Common.{◌≡◌, ℕ, ◌+◌, ◌<◌, ◌≤◌, List, [], ◌∷◌, ◌++◌, length, take, drop, refl, sym, ap, ◌∙◌, subst}
use Rattle.std.proofs.Common.{true, false, Bool, arith, get_or, filter, append-nil, inl, inr, rules}
use Rattle.std.specs.List.{All, AllByRecursion}
use Rattle.std.proofs.lemmas.Bool.{cases_lt}
use Rattle.std.proofs.lemmas.List.{take-append-drop, get_or-take, get_or-drop, length-take-le, length-drop, drop_more}
use Rattle.std.proofs.lemmas.List.{take_all, drop_all, get_or_default}
use Rattle.std.proofs.lemmas.List.Splits.{slice_split_at, slice_split_none}
use Rattle.std.proofs.lemmas.List.Elements.{recursion_from_All}
use Rattle.aide_fields.specs.Text.{is_blank, is_filled, fields}

pub skip_blank : (b : ℕ) (bs : List ℕ) → is_blank b ≡ true → fields (b ∷ bs) ≡ fields bs
unfolding fields
skip_blank b bs e = rw e refl

skip_blanks : (f r : List ℕ) → AllByRecursion (λ b. is_blank b ≡ true) f → fields (f ++ r) ≡ fields r
skip_blanks [] r each = refl
skip_blanks (b ∷ f) r each = skip_blank b (f ++ r) each.0 ∙ skip_blanks f r each.1

pub no_field : fields [] ≡ []
unfolding fields
no_field = refl

whole_field : (f : List ℕ) → is_filled f ≡ true → All (λ b. is_blank b ≡ false) f → fields f ≡ f ∷ []
unfolding fields
whole_field f filled each = ap (filter is_filled) (slice_split_none is_blank f each) ∙ rw filled refl

cut_field : (f r : List ℕ) (b : ℕ) → is_filled f ≡ true → All (λ b. is_blank b ≡ false) f → is_blank b ≡ true
    → fields (f ++ b ∷ r) ≡ f ∷ fields r
unfolding fields
cut_field f r b filled each blank = ap (filter is_filled) (slice_split_at is_blank f b r each blank) ∙ rw filled refl

filled_from_length : (f : List ℕ) → 0 < length f → is_filled f ≡ true
filled_from_length [] h = absurd (omega arith)
filled_from_length (x ∷ f) h = refl

-- the bytes before an index, each of them
all_front : (line : List ℕ) (n : ℕ) (t : Bool) → n ≤ length line → ((k : ℕ) → k < n → is_blank (get_or line k 0) ≡ t)
    → All (λ b. is_blank b ≡ t) (take n line)
all_front line n t le each = search (rules, length-take-le, get_or-take, get_or_default)

pub field_none : (line : List ℕ) → ((k : ℕ) → k < length line → is_blank (get_or line k 0) ≡ true) → fields line ≡ []
field_none line each =
    ap fields (sym (append-nil line))
    ∙ (skip_blanks line [] (recursion_from_All (λ b. is_blank b ≡ true) line
    (subst (λ (xs : List ℕ). All (λ b. is_blank b ≡ true) xs) (take_all (length line) line (omega arith))
    (all_front line (length line) true (omega arith) each)))
    ∙ no_field)

-- a field at the front
first_field : (r : List ℕ) (end : ℕ) → 0 < end → end ≤ length r → ((k : ℕ) → k < end → is_blank (get_or r k 0) ≡ false)
    → (end < length r → is_blank (get_or r end 0) ≡ true) → fields r ≡ take end r ∷ fields (drop end r)
first_field r end some le each stops =
    let filled : is_filled (take end r) ≡ true = filled_from_length (take end r) (omega (arith, length-take-le end r le)) in
    let plain : All (λ b. is_blank b ≡ false) (take end r) = all_front r end false le each in
    elim (cases_lt end (length r)) [
      | inl lt ↦
          let cut : drop end r ≡ get_or r end 0 ∷ drop (end + 1) r = drop_more r end 0 lt in
          ap fields (sym (take-append-drop end r) ∙ ap (λ t. take end r ++ t) cut)
          ∙ (cut_field (take end r) (drop (end + 1) r) (get_or r end 0) filled plain (stops lt)
          ∙ ap (λ t. take end r ∷ t) (sym (ap fields cut ∙ skip_blank (get_or r end 0) (drop (end + 1) r) (stops lt))))
      | inr ge ↦
          let all : take end r ≡ r = take_all end r ge in
          let none : drop end r ≡ [] = drop_all end r ge in
          ap fields (sym all) ∙ (whole_field (take end r) filled plain ∙ ap (λ t. take end r ∷ t) (sym (ap fields none ∙ no_field)))
    ]

pub field_first : (line : List ℕ) (start end : ℕ) → start < length line
    → ((k : ℕ) → k < start → is_blank (get_or line k 0) ≡ true) → is_blank (get_or line start 0) ≡ false
    → end ≤ length (drop start line) → ((k : ℕ) → k < end → is_blank (get_or (drop start line) k 0) ≡ false)
    → (end < length (drop start line) → is_blank (get_or (drop start line) end 0) ≡ true)
    → (fields line ≡ take end (drop start line) ∷ fields (drop end (drop start line))) × (0 < end)
field_first line start end lt blanks here le each stops =
    let long : 0 < length (drop start line) = omega (arith, length-drop start line) in
    let first : is_blank (get_or (drop start line) 0 0) ≡ false =
    subst (λ (x : ℕ). is_blank x ≡ false) (sym
    (get_or-drop start line 0 0 ∙ ap (λ n. get_or line n 0) (let e : start + 0 ≡ start = omega arith in e))) here in
    let some : 0 < end = elim (cases_lt 0 end) [
      | inl h ↦ h
      | inr h ↦ let e : end ≡ 0 = omega arith in
          let b : is_blank (get_or (drop start line) 0 0) ≡ true =
          subst (λ (n : ℕ). is_blank (get_or (drop start line) n 0) ≡ true) e (stops (omega arith)) in cc
    ] in (
      ap fields (sym (take-append-drop start line))
          ∙ (skip_blanks (take start line) (drop start line)
          (recursion_from_All (λ b. is_blank b ≡ true) (take start line) (all_front line start true (omega arith) blanks))
          ∙ first_field (drop start line) end some le each stops),
      some,
    )

-- the same of the parts by their names
pub field_first_parts : (line rest front back : List ℕ) (start end : ℕ) → rest ≡ drop start line → front ≡ take end rest
    → back ≡ drop end rest → start < length line → ((k : ℕ) → k < start → is_blank (get_or line k 0) ≡ true)
    → is_blank (get_or line start 0) ≡ false
    → end ≤ length rest → ((k : ℕ) → k < end → is_blank (get_or rest k 0) ≡ false)
    → (end < length rest → is_blank (get_or rest end 0) ≡ true)
    → (fields line ≡ front ∷ fields back) × (0 < end)
field_first_parts line rest front back start end e f g lt blanks here le each stops = search (rules, field_first)

-- the first field of a line, or that there is none
pub ruleset first_fields = (field_first, field_none)
