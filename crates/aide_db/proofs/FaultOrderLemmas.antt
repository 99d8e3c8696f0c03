-- The first fault in the order that a line has is the fault of the line.
use Rattle.std.proofs.Common.{◌≡◌, ℕ, ◌+◌, ◌<◌, ◌≤◌, List, [], ◌∷◌, length, refl, sym, ap, ◌∙◌, true, false, cond, Bool, rules}
use Rattle.std.proofs.Common.{not, ◌&&◌, arith, Option, Some, None, zero, suc, eq-eqb}
use Rattle.std.specs.Prelude.{◌==◌, find, flat_map, zip, All, unwrap_or}
use Rattle.std.specs.List.{list_any, list_all, range_with_len, enumerate_from}
use Rattle.std.proofs.lemmas.Bool.{ne_eqb, and_parts, leb-true}
use Rattle.std.proofs.lemmas.List.Elements.{All-head, All-tail}
use Rattle.std.proofs.Math.Bool.{or-false}
use Rattle.aide_attr.specs.Attr.{form_of}
use Rattle.aide_attr.specs.declared.form.Form.{Form}
use Rattle.aide_attr.specs.declared.form.Form.TheVariants as forms
use Rattle.aide_fields.specs.Text.{fields}
use Rattle.aide_entry.specs.Lines.{kind_of, is_end, counts, is_blank_kind}
use Rattle.aide_entry.specs.Fields.{columns_of, are_columns, most_columns}
use Rattle.aide_fields.specs.Values.{is_field}
use Rattle.aide_entry.specs.Entry.{fault_of_form}
use Rattle.aide_entry.specs.Entry.{has_form, is_before, fault_of_column, first_bad, first_bad_from}
use Rattle.aide_entry.specs.EntryLines.{IsEntryLine}
use Rattle.aide_db.specs.Database.{counted, fault_of}
use Rattle.aide_db.specs.code.LineFault.{line_fault, fault_after}
use Rattle.aide_db.specs.FaultOrder.{fault_order, field_faults, faults_of_column, is_kind, is_a, have_a, columns_named}
use Rattle.aide_db.specs.FaultOrder.{is_number_form, is_time_form, is_digest_form, is_of_numbers, is_of_form, is_wrong}
use Rattle.aide_db.specs.FaultOrder.{lacks_begin, is_unexpected, names_bad_columns, lacks_spec, has_other_count}
use Rattle.aide_db.specs.FaultOrder.{has_bad_name, is_out_of_order, has_fault, is_too_long}
use Rattle.aide_db.specs.Parts.{IsPart, IsOpen}
use Rattle.aide_entry.specs.declared.column.Column.{Column}
use Rattle.aide_entry.specs.declared.column.Column.TheVariants.{Bits, Of}
use Rattle.aide_entry.specs.declared.line.LineKind.{LineKind}
use Rattle.aide_entry.specs.declared.line.LineKind.TheVariants.{Blank, Begin, Spec, End, Directive, Other}
use Rattle.aide_entry.specs.declared.fault_kind.DbFaultKind.{DbFaultKind}
use Rattle.aide_entry.specs.declared.fault_kind.DbFaultKind.TheVariants.{LineTooLong, NoBegin, BadDirective, BadSpec, NoSpec, FieldCount}
use Rattle.aide_entry.specs.declared.fault_kind.DbFaultKind.TheVariants.{BadName, OutOfOrder, BadNumber, BadTime, BadDigest}

-- ---- one field

abbrev Cell : Type 0
Cell = ℕ × (Column × List ℕ)

-- this cell is the one of a number, and its field is bad
abbrev is_bad : (Column → Bool) → ℕ → Cell → Bool
is_bad test number cell = (cell.0 == number) && (test cell.1.0 && not (has_form cell.1.0 cell.1.1))

-- the fault that a test of columns stands for, among cells
abbrev has_bad : List Cell → DbFaultKind → Bool
has_bad cells (BadNumber n) = list_any (is_bad is_of_numbers n) cells
has_bad cells (BadTime n) = list_any (is_bad (is_of_form is_time_form) n) cells
has_bad cells (BadDigest n) = list_any (is_bad (is_of_form is_digest_form) n) cells
has_bad _ _ = false

-- three faults of one field, of which its form allows one
abbrev of_field : Bool → Bool → Bool → ℕ → Option DbFaultKind → Option DbFaultKind
of_field number time digest n o =
    cond number (Some (BadNumber n)) (cond time (Some (BadTime n)) (cond digest (Some (BadDigest n)) o))

by_form : (f : Form) (field : List ℕ) (n : ℕ) (o : Option DbFaultKind)
    → of_field (is_number_form f && not (is_field f field)) (is_time_form f && not (is_field f field))
    (is_digest_form f && not (is_field f field)) n o
    ≡ cond (is_field f field) o (Some (fault_of_form f n))
by_form forms.Kind field n o = elim (is_field forms.Kind field) as (λ b. of_field (not b) false false n o ≡ cond b o (Some (BadNumber n)))
    [ true ↦ refl | false ↦ refl ]
by_form forms.Mode field n o = elim (is_field forms.Mode field) as (λ b. of_field (not b) false false n o ≡ cond b o (Some (BadNumber n)))
    [ true ↦ refl | false ↦ refl ]
by_form forms.Number field n o = elim (is_field forms.Number field) as
    (λ b. of_field (not b) false false n o ≡ cond b o (Some (BadNumber n))) [ true ↦ refl | false ↦ refl ]
by_form forms.Time field n o = elim (is_field forms.Time field) as (λ b. of_field false (not b) false n o ≡ cond b o (Some (BadTime n)))
    [ true ↦ refl | false ↦ refl ]
by_form (forms.Digest least most) field n o = elim (is_field (forms.Digest least most) field) as
    (λ b. of_field false false (not b) n o ≡ cond b o (Some (BadDigest n))) [ true ↦ refl | false ↦ refl ]
by_form _ field n o = refl

by_column : (c : Column) (field : List ℕ) (n : ℕ) (o : Option DbFaultKind)
    → of_field (is_of_numbers c && not (has_form c field)) (is_of_form is_time_form c && not (has_form c field))
    (is_of_form is_digest_form c && not (has_form c field)) n o
    ≡ cond (has_form c field) o (Some (fault_of_column c n))
by_column Bits field n o = elim (has_form Bits field) as (λ b. of_field (not b) false false n o ≡ cond b o (Some (BadNumber n)))
    [ true ↦ refl | false ↦ refl ]
by_column (Of attr) field n o = by_form (form_of attr) field n o
by_column _ field n o = refl

-- ---- the first that passes

-- no fault of these columns passes a test that none of them passes
none_found : (p : DbFaultKind → Bool) → ((n : ℕ) → (p (BadNumber n) ≡ false) × (p (BadTime n) ≡ false) × (p (BadDigest n) ≡ false))
    → (ns : List ℕ) → find p (flat_map faults_of_column ns) ≡ None
none_found p h [] = refl
none_found p h (n ∷ ns) = rw ((h n).0, (h n).1, (h n).2) (none_found p h ns)

abbrev SameFrom : (p q : DbFaultKind → Bool) → ℕ → Type 0
SameFrom p q a = (n : ℕ) → a ≤ n
    → (p (BadNumber n) ≡ q (BadNumber n)) × (p (BadTime n) ≡ q (BadTime n)) × (p (BadDigest n) ≡ q (BadDigest n))

-- two tests that agree from a column on find the same there
same_found : (p q : DbFaultKind → Bool) (a c : ℕ) → SameFrom p q a
    → find p (flat_map faults_of_column (range_with_len a c)) ≡ find q (flat_map faults_of_column (range_with_len a c))
same_found p q a zero h = refl
same_found p q a (suc c) h =
    let e = h a (omega arith) in
    rw (e.0, e.1, e.2, same_found p q (a + 1) c (λ n le. h n (omega (arith, le)))) refl

-- ---- the fields of a line

-- a number that no cell has
no_cell : (test : Column → Bool) (n m : ℕ) (xs : List (Column × List ℕ)) → n < m
    → list_any (is_bad test n) (enumerate_from m xs) ≡ false
no_cell test n m [] lt = refl
no_cell test n m (x ∷ xs) lt =
    rw (ne_eqb m n (λ e. omega (arith, lt, e)), no_cell test n (m + 1) xs (omega (arith, lt))) refl

-- the first cell of some
at_cell : (test : Column → Bool) (m : ℕ) (x : Column × List ℕ) (xs : List (Column × List ℕ))
    → list_any (is_bad test m) (enumerate_from m (x ∷ xs)) ≡ (test x.0 && not (has_form x.0 x.1))
at_cell test m x xs =
    rw (eq-eqb m m refl, no_cell test m (m + 1) xs (omega arith)) (or-false (test x.0 && not (has_form x.0 x.1)))

past_cell : (test : Column → Bool) (n m : ℕ) (x : Column × List ℕ) (xs : List (Column × List ℕ)) → m < n
    → list_any (is_bad test n) (enumerate_from m (x ∷ xs)) ≡ list_any (is_bad test n) (enumerate_from (m + 1) xs)
past_cell test n m x xs lt = rw (ne_eqb m n (λ e. omega (arith, lt, e))) refl

past_cells : (m : ℕ) (x : Column × List ℕ) (xs : List (Column × List ℕ))
    → SameFrom (has_bad (enumerate_from m (x ∷ xs))) (has_bad (enumerate_from (m + 1) xs)) (m + 1)
past_cells m x xs n le = search (rules, past_cell)

-- the first bad field of some is the first of the faults that hold
fields_found : (c m : ℕ) (xs : List (Column × List ℕ)) → length xs ≤ c
    → find (has_bad (enumerate_from m xs)) (flat_map faults_of_column (range_with_len m c)) ≡ first_bad_from m xs
fields_found c m [] le = none_found (has_bad []) (λ n. (refl, refl, refl)) (range_with_len m c)
fields_found zero m (x ∷ xs) le = absurd (omega (arith, le))
fields_found (suc c) m (x ∷ xs) le =
    rw (at_cell is_of_numbers m x xs, at_cell (is_of_form is_time_form) m x xs, at_cell (is_of_form is_digest_form) m x xs)
    (by_column x.0 x.1 m _ ∙ ap (λ o. cond (has_form x.0 x.1) o (Some (fault_of_column x.0 m)))
    (same_found _ _ (m + 1) c (past_cells m x xs) ∙ fields_found c (m + 1) xs (omega (arith, le))))

fields_of_line : (limit : ℕ) (before : List (List ℕ)) (l : List ℕ) (cs : List Column) → kind_of l ≡ Other
    → columns_named before ≡ cs → length (zip cs (fields l)) ≤ most_columns
    → find (is_wrong limit before l) field_faults ≡ first_bad cs (fields l)
unfolding field_faults
fields_of_line limit before l cs is named le =
    same_found (is_wrong limit before l) (has_bad (enumerate_from 1 (zip cs (fields l)))) 1 most_columns
    (λ n at. rw (is, named) (refl, refl, refl))
    ∙ fields_found most_columns 1 (zip cs (fields l)) le

-- a line that is not to be an entry has no bad field
no_field : (limit : ℕ) (before : List (List ℕ)) (l : List ℕ) → is_a Other l ≡ false
    → find (is_wrong limit before l) field_faults ≡ None
unfolding field_faults
no_field limit before l e =
    none_found (is_wrong limit before l) (λ n. rw e (refl, refl, refl)) (range_with_len 1 most_columns)

-- ---- the lines before a line

-- a test that no skipped line passes sees only the other lines
any_counted : (p : List ℕ → Bool) → ((l : List ℕ) → counts l ≡ false → p l ≡ false) → (ls : List (List ℕ))
    → list_any p ls ≡ list_any p (counted ls)
any_counted p h [] = refl
any_counted p h (l ∷ ls) = search (rules, any_counted p h ls)

find_counted : (p : List ℕ → Bool) → ((l : List ℕ) → counts l ≡ false → p l ≡ false) → (ls : List (List ℕ))
    → find p ls ≡ find p (counted ls)
find_counted p h [] = refl
find_counted p h (l ∷ ls) = search (rules, find_counted p h ls)

-- a skipped line is of no other kind
skipped_is_no : (kind k : LineKind) → is_blank_kind kind ≡ false → not (is_blank_kind k) ≡ false → is_kind kind k ≡ false
skipped_is_no Blank k e f = cc
skipped_is_no Begin Blank e f = refl
skipped_is_no Spec Blank e f = refl
skipped_is_no End Blank e f = refl
skipped_is_no Directive Blank e f = refl
skipped_is_no Other Blank e f = refl
skipped_is_no kind k e f = cc

have_counted : (kind : LineKind) (before : List (List ℕ)) → is_blank_kind kind ≡ false
    → have_a kind before ≡ have_a kind (counted before)
have_counted kind before e =
    any_counted (is_a kind) (λ l f. skipped_is_no kind (kind_of l) e f) before

-- what stands before a line: the kinds that are there
record Heads (before : List (List ℕ)) (head : List (List ℕ)) : Type 0 where
  begins : have_a Begin before ≡ have_a Begin head
  specifies : have_a Spec before ≡ have_a Spec head
  named : find (is_a Spec) before ≡ find (is_a Spec) head

heads : (before : List (List ℕ)) → Heads before (counted before)
heads before = search (rules, have_counted, find_counted, skipped_is_no)

-- ---- the faults of a line, one after another

-- the first of the faults that hold, and this if none of them does
abbrev first_of : Bool → Bool → Bool → Bool → Bool → Bool → Bool → Option DbFaultKind → Option DbFaultKind
first_of no_begin directive spec no_spec count name order o =
    cond no_begin (Some NoBegin) (cond directive (Some BadDirective) (cond spec (Some BadSpec)
    (cond no_spec (Some NoSpec) (cond count (Some FieldCount) (cond name (Some BadName) (cond order (Some OutOfOrder) o))))))

abbrev told : List (List ℕ) → List ℕ → Option DbFaultKind → Option DbFaultKind
told before l o =
    first_of (lacks_begin before l) (is_unexpected before l) (names_bad_columns l) (lacks_spec before l)
    (has_other_count (columns_named before) l) (has_bad_name (columns_named before) l)
    (is_out_of_order (columns_named before) before l) o

told_directive : (before head : List (List ℕ)) (l : List ℕ) (k : LineKind) → Heads before head → IsPart head
    → kind_of l ≡ k → is_kind Other k ≡ false → fault_after head l k ≡ told before l None
told_directive before head l Blank h part is e = rw is refl
told_directive before (b ∷ []) l Begin h part is e = rw (is, h.begins, part) refl
told_directive before (b ∷ []) l Directive h part is e = rw (is, h.begins, part) refl
told_directive before (b ∷ []) l End h part is e = rw (is, h.begins, h.specifies, part) refl
told_directive before (b ∷ []) l Spec h part is e = search (rules, not)
told_directive before (b ∷ s ∷ es) l Begin h part is e = rw (is, h.begins, part.begins) refl
told_directive before (b ∷ s ∷ es) l Spec h part is e = rw (is, h.begins, h.specifies, part.begins, part.specifies) refl
told_directive before (b ∷ s ∷ es) l End h part is e = rw (is, h.begins, h.specifies, part.begins, part.specifies) refl
told_directive before (b ∷ s ∷ es) l Directive h part is e = rw (is, h.begins, part.begins) refl
told_directive before head l Other h part is e = cc
told_directive before [] l _ h part is e = rw (is, h.begins) refl

-- some entry is not before the line exactly if not all entries are
none_late : (cs : List Column) (l : List ℕ) (es : List (List ℕ)) → All (IsEntryLine cs) es
    → list_any (λ e. is_a Other e && not (is_before cs e l)) es ≡ not (list_all (λ e. is_before cs e l) es)
none_late cs l [] each = refl
none_late cs l (e ∷ es) each = search (rules, none_late cs l es (All-tail (IsEntryLine cs) e es each), All-head, All-tail)

late_among : (before : List (List ℕ)) (cs : List Column) (l b s : List ℕ) (es : List (List ℕ)) → counted before ≡ b ∷ s ∷ es
    → kind_of b ≡ Begin → kind_of s ≡ Spec → All (IsEntryLine cs) es
    → list_any (λ e. is_a Other e && not (is_before cs e l)) before ≡ not (list_all (λ e. is_before cs e l) es)
late_among before cs l b s es e begins specifies each = search (rules, any_counted, skipped_is_no, none_late)

zip_short : (cs : List Column) (fs : List (List ℕ)) → length (zip cs fs) ≤ length cs
zip_short [] fs = omega arith
zip_short (c ∷ cs) [] = omega arith
zip_short (c ∷ cs) (f ∷ fs) = omega (arith, zip_short cs fs)

few_fields : (cs : List Column) (fs : List (List ℕ)) → are_columns cs ≡ true → length (zip cs fs) ≤ most_columns
few_fields cs fs fine = search (rules, and_parts, zip_short, leb-true)

told_entry : (limit : ℕ) (before head : List (List ℕ)) (l : List ℕ) → counted before ≡ head → Heads before head → IsPart head
    → kind_of l ≡ Other → fault_after head l Other ≡ told before l (find (is_wrong limit before l) field_faults)
told_entry limit before [] l e h part is = rw (is, h.begins) refl
told_entry limit before (b ∷ []) l e h part is = rw (is, h.begins, h.specifies, part) refl
told_entry limit before (b ∷ s ∷ es) l e h part is =
    let first : find (is_a Spec) (b ∷ s ∷ es) ≡ Some s = rw (part.begins, part.specifies) refl in
    let named : columns_named before ≡ columns_of s = ap (λ o. columns_of (unwrap_or o [])) (h.named ∙ first) in
    let late = late_among before (columns_of s) l b s es e part.begins part.specifies part.each in
    let bad = fields_of_line limit before l (columns_of s) is named (few_fields (columns_of s) (fields l) part.columns) in
    rw (bad, is, h.begins, h.specifies, part.begins, part.specifies, named, late) refl

told_by_kind : (limit : ℕ) (before : List (List ℕ)) (l : List ℕ) (k : LineKind) → IsPart (counted before) → kind_of l ≡ k
    → (b : Bool) → is_kind Other k ≡ b
    → fault_after (counted before) l k ≡ told before l (find (is_wrong limit before l) field_faults)
told_by_kind limit before l Other part is b e = told_entry limit before (counted before) l refl (heads before) part is
told_by_kind limit before l k part is false e =
    told_directive before (counted before) l k (heads before) part is e
    ∙ ap (told before l) (sym (no_field limit before l (ap (is_kind Other) is ∙ e)))
told_by_kind limit before l k part is true e = cc

-- ---- the fault of a line

wrong_first : (limit : ℕ) (before : List (List ℕ)) (l : List ℕ)
    → find (is_wrong limit before l) fault_order
    ≡ cond (is_too_long limit l) (Some LineTooLong) (told before l (find (is_wrong limit before l) field_faults))
unfolding fault_order
wrong_first limit before l = refl

agree : {X : Type 0} (p q : X → Bool) → ((x : X) → p x ≡ q x) → (xs : List X) → find p xs ≡ find q xs
agree p q h [] = refl
agree p q h (x ∷ xs) = rw (h x, agree p q h xs) refl

has_before_end : (limit : ℕ) (before : List (List ℕ)) (l : List ℕ) → list_any is_end before ≡ false → (kind : DbFaultKind)
    → has_fault limit before l kind ≡ is_wrong limit before l kind
unfolding has_fault
has_before_end limit before l e kind = rw e refl

-- the fault of a line after lines without an end line
pub first_of_open : (limit : ℕ) (before : List (List ℕ)) (l : List ℕ) → IsOpen limit before
    → line_fault limit before l ≡ fault_of limit before l
unfolding line_fault fault_of
first_of_open limit before l o =
    rw o.no_end
    (ap (cond (is_too_long limit l) (Some LineTooLong))
    (told_by_kind limit before l (kind_of l) o.part refl (is_kind Other (kind_of l)) refl)
    ∙ (sym (wrong_first limit before l)
    ∙ sym (agree (has_fault limit before l) (is_wrong limit before l) (has_before_end limit before l o.no_end) fault_order)))
