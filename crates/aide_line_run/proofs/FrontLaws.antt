-- Each text has lines before its first fault, they are determined, and the changes of such lines are in path order.
use Rattle.std.specs.Prelude.{◌≡◌, ◌≤◌, ◌<◌, ◌+◌, ℕ, true, cond, T, List, [], ◌∷◌, ◌++◌, length, drop, take}
use Rattle.std.proofs.Common.{◌∙◌, ap, append-nil, append_assoc, arith, inl, inr, refl, rules, subst, sym}
use Rattle.std.proofs.lemmas.Bool.{cases_lt, leb-false}
use Rattle.std.proofs.lemmas.List.{length-append, take-append-drop}
use Rattle.std.specs.FinMap.{entries, entries-from_sorted, entries_sorted}
use Rattle.std.specs.FinMap.Entries.{below_all, is_sorted}
use Rattle.aide_fields.specs.Attributes.{Entry}
use Rattle.aide_fields.specs.Path.{path_cmp}
use Rattle.aide_fields.specs.Text.{ended_lines, is_filled, lines, unfinished_line}
use Rattle.aide_entry.specs.declared.fault_kind.DbFaultKind.{DbFaultKind}
use Rattle.aide_fields.proofs.PathLaws.{path_cmp_total, path_cmp-IsAntisymmetric}
use Rattle.aide_db.specs.Database.{IsFirstFault, IsFront, IsSound, whole_lines}
use Rattle.aide_db.specs.Map.{database_of, entries_of}
use Rattle.aide_db.specs.code.TakeLine.{HasNoNewline}
use Rattle.aide_db.specs.declared.limits.Limits.{Limits}
use Rattle.aide_db.proofs.FaultExists.{sound_or_fault}
use Rattle.aide_db.proofs.FirstFault.{first_fault_unique}
use Rattle.aide_db.proofs.LinesLemmas.{AreLines, ended_last, ended_more, first_line, joined, lines_joined, lines_last}
use Rattle.aide_db.proofs.LinesLemmas.{lines_more, lines_none, unfinished_joined, unfinished_none}
use Rattle.aide_db.proofs.MapLaws.{entries-database_of}
use Rattle.aide_db.proofs.Steps.{cut, uncut}
use Rattle.aide_merge.specs.Compare.{changes}
use Rattle.aide_merge.specs.Merged.{merged}
use Rattle.aide_merge.specs.code.Merging.{pass_of}
use Rattle.aide_merge.proofs.MergeLemmas.{changes-merged}
use Rattle.aide_line_run.specs.BeforeFault.{EndsAtFault, IsBeforeFault}
use Rattle.aide_line_run.proofs.FrontLemmas.{front_lines}
use Rattle.aide_line_run.proofs.FrontLines.{head_more, head_of, heads_cut, tails}
use Rattle.aide_line_run.proofs.SoughtLemmas.{T_true}

-- ---- there are such lines

-- lines that a text begins with
record BeginsWith (text : List ℕ) (before : List (List ℕ)) : Type 0 where
  more : List ℕ
  parts : text ≡ joined before ++ more
  plain : AreLines before

one_more : (text l r : List ℕ) (b : List ℕ) (before : List (List ℕ)) → text ≡ l ++ 10 ∷ r → HasNoNewline l → l ≡ b
    → BeginsWith r before → BeginsWith text (b ∷ before)
one_more text l r b before e plain same rest = record {
  more = rest.more;
  parts = e ∙ (λ i. same i ++ 10 ∷ rest.parts i) ∙ sym (append_assoc b (10 ∷ joined before) rest.more);
  plain = (subst HasNoNewline same plain, rest.plain);
}

heads : (x y : List ℕ) (xs ys : List (List ℕ)) → x ∷ xs ≡ y ∷ ys → x ≡ y
heads x y xs ys e = cc

with_line_behind : (text line : List ℕ) (before rest : List (List ℕ)) → lines text ≡ before ++ line ∷ rest → BeginsWith text before
with_line_behind text line [] rest e = record { more = text; parts = refl; plain = tt }
with_line_behind text line (b ∷ before) rest e = elim (first_line text) [
  | inl f ↦
      let same = sym (lines_more f.0 f.1 f.3) ∙ sym (ap lines f.2) ∙ e in
      one_more text f.0 f.1 b before f.2 f.3 (heads f.0 b (lines f.1) (before ++ line ∷ rest) same)
      (with_line_behind f.1 line before rest (tails f.0 b (lines f.1) (before ++ line ∷ rest) same))
  | inr plain ↦ absurd (omega (arith, ap length (sym (lines_last text plain) ∙ e), at_most_one text, length-append before (line ∷ rest)))
] where
  at_most_one : (text : List ℕ) → length (cond (is_filled text) (text ∷ []) []) ≤ 1
  at_most_one [] = omega arith
  at_most_one (x ∷ xs) = omega arith

with_newlines : (text : List ℕ) (before rest : List (List ℕ)) → ended_lines text ≡ before ++ rest → BeginsWith text before
with_newlines text [] rest e = record { more = text; parts = refl; plain = tt }
with_newlines text (b ∷ before) rest e = elim (first_line text) [
  | inl f ↦
      let same = sym (ended_more f.0 f.1 f.3) ∙ sym (ap ended_lines f.2) ∙ e in
      one_more text f.0 f.1 b before f.2 f.3 (heads f.0 b (ended_lines f.1) (before ++ rest) same)
      (with_newlines f.1 before rest (tails f.0 b (ended_lines f.1) (before ++ rest) same))
  | inr plain ↦ let none : [] ≡ b ∷ (before ++ rest) = sym (ended_last text plain) ∙ e in cc
]

joined_lines : (before : List (List ℕ)) → AreLines before → lines (joined before) ≡ before
joined_lines before plain =
    ap lines (sym (append-nil (joined before))) ∙ lines_joined before [] plain ∙ ap (λ l. before ++ l) lines_none ∙ append-nil before

cut_begins : (limits : Limits) (text : List ℕ) (before rest : List (List ℕ)) → limits.bytes < length text
    → whole_lines limits text ≡ before ++ rest → BeginsWith text before
cut_begins limits text before rest lt e =
    let first = with_newlines (take limits.bytes text) before rest (sym (cut limits text lt) ∙ e) in
    record {
      more = first.more ++ drop limits.bytes text;
      parts = sym (take-append-drop limits.bytes text) ∙ ap (λ t. t ++ drop limits.bytes text) first.parts
          ∙ append_assoc (joined before) first.more (drop limits.bytes text);
      plain = first.plain;
    }

front_from : (limits : Limits) (text : List ℕ) (n : ℕ) (kind : DbFaultKind) (before : List (List ℕ)) → IsFirstFault limits text n kind
    → n ≡ length before + 1 → BeginsWith text before → EndsAtFault limits text (joined before)
front_from limits text n kind before fault number_is begins = record {
  number = n;
  kind = kind;
  fault = fault;
  number_is = number_is ∙ ap (λ ls. length ls + 1) (sym (joined_lines before begins.plain));
  more = begins.more;
  parts = begins.parts;
  whole = inl (ap unfinished_line (sym (append-nil (joined before))) ∙ unfinished_joined before [] begins.plain ∙ unfinished_none);
}

whole_begins : (limits : Limits) (text line : List ℕ) (before after : List (List ℕ)) → whole_lines limits text ≡ before ++ line ∷ after
    → BeginsWith text before
whole_begins limits text line before after e = elim (cases_lt limits.bytes (length text)) [
  | inl lt ↦ cut_begins limits text before (line ∷ after) lt e
  | inr ge ↦ with_line_behind text line before after (sym (uncut limits text ge) ∙ e)
]

front_of : (limits : Limits) (text : List ℕ) (n : ℕ) (kind : DbFaultKind) → IsFirstFault limits text n kind
    → (front : List ℕ) × IsFront limits.line (lines front) × EndsAtFault limits text front
front_of limits text n kind (inl a) =
    let begins = whole_begins limits text a.line a.before a.after a.parts in (
      joined a.before,
      subst (IsFront limits.line) (sym (joined_lines a.before begins.plain)) a.good,
      front_from limits text n kind a.before (inl a) a.number_is begins,
    )
front_of limits text n kind (inr (inl a)) =
    let all = whole_lines limits text in
    let begins = cut_begins limits text all [] (leb-false (length text) limits.bytes a.long) (sym (append-nil all)) in (
      joined all,
      subst (IsFront limits.line) (sym (joined_lines all begins.plain)) a.good,
      front_from limits text n kind all (inr (inl a)) a.number_is begins,
    )
front_of limits text n kind (inr (inr a)) = (
  text,
  a.good,
  record {
    number = n;
    kind = kind;
    fault = inr (inr a);
    number_is = a.number_is;
    more = [];
    parts = sym (append-nil text);
    whole = inr refl;
  },
)

-- Each text has lines before its first fault.
pub before_fault_exists : (limits : Limits) (text : List ℕ) → 14 ≤ limits.line → (front : List ℕ) × IsBeforeFault limits text front
before_fault_exists limits text le = elim (sound_or_fault limits text le) [
  | inl sound ↦ (text, inl (sound, refl))
  | inr f ↦ let front = front_of limits text f.0 f.1 f.2 in (front.0, inr front.2)
]

-- ---- they are determined

first_same : (xs ys ms ns : List (List ℕ)) → xs ++ ms ≡ ys ++ ns → length xs ≡ length ys → xs ≡ ys
first_same [] [] ms ns e n = refl
first_same [] (y ∷ ys) ms ns e n = absurd (omega (arith, n))
first_same (x ∷ xs) [] ms ns e n = absurd (omega (arith, n))
first_same (x ∷ xs) (y ∷ ys) ms ns e n =
    let rest = first_same xs ys ms ns (tails x y (xs ++ ms) (ys ++ ns) e) (omega (arith, n)) in
    λ i. heads x y (xs ++ ms) (ys ++ ns) e i ∷ rest i

-- The lines of a text before its first fault are the same ones, whether or not the last of them has its newline.
pub front_is_one : {limits : Limits} {text one other : List ℕ} → EndsAtFault limits text one → EndsAtFault limits text other
    → lines one ≡ lines other
front_is_one {limits = limits} {text = text} {one = one} {other = other} p q =
    let a = front_lines p in
    let b = front_lines q in
    first_same (lines one) (lines other) a.0 b.0 (sym a.1 ∙ b.1)
    (omega (arith, p.number_is, q.number_is, (first_fault_unique limits text p.number q.number p.kind q.kind p.fault q.fault).0))

-- ---- their entries are in path order

below_first : (path : List ℕ) (xs ys : List Entry) → below_all path_cmp path (xs ++ ys) ≡ true → below_all path_cmp path xs ≡ true
below_first path [] ys h = refl
below_first path (x ∷ xs) ys h = search (rules, below_first path xs ys)

sorted_first : (xs ys : List Entry) → is_sorted path_cmp (xs ++ ys) ≡ true → is_sorted path_cmp xs ≡ true
sorted_first [] ys h = refl
sorted_first (x ∷ xs) ys h = search (rules, sorted_first xs ys, below_first x.0 xs ys)

sound_sorted : (limits : Limits) (text : List ℕ) → IsSound limits text → is_sorted path_cmp (entries_of text) ≡ true
sound_sorted limits text sound = T_true _
    (subst (λ (es : List Entry). T (is_sorted path_cmp es)) (entries-database_of limits text sound) (entries_sorted (database_of text)))

front_sorted : (limit : ℕ) (front : List ℕ) → IsFront limit (lines front) → is_sorted path_cmp (entries_of front) ≡ true
front_sorted limit front f =
    let whole : Limits = record { line = limit; bytes = length f.text } in
    let head = head_more f.text front f.more f.goes_on in
    sorted_first (entries_of front) _
    (ap (is_sorted path_cmp) (sym (heads_cut (head_of f.text) (head_of front) head.0 0 head.1 (omega arith)))
    ∙ sound_sorted whole f.text (f.database, omega arith))

before_fault_sorted : (limits : Limits) (text front : List ℕ) → IsBeforeFault limits text front
    → is_sorted path_cmp (entries_of front) ≡ true
before_fault_sorted limits text front (inl sound) =
    ap (λ t. is_sorted path_cmp (entries_of t)) sound.1 ∙ sound_sorted limits text sound.0
before_fault_sorted limits text front (inr f) =
    let found = front_of limits text f.number f.kind f.fault in
    front_sorted limits.line front (subst (IsFront limits.line) (front_is_one found.2 f) found.1)

entries_front : (limits : Limits) (text front : List ℕ) → IsBeforeFault limits text front
    → entries (database_of front) ≡ entries_of front
entries_front limits text front is =
    entries-from_sorted path_cmp (entries_of front) (subst T (sym (before_fault_sorted limits text front is)) tt)

-- The merge of what comes before the first faults of two texts is the comparison of its maps.
pub front_is_changes : (limits : Limits) (old new old_front new_front : List ℕ) → IsBeforeFault limits old old_front
    → IsBeforeFault limits new new_front
    → changes (database_of old_front) (database_of new_front) ≡ pass_of old_front new_front
front_is_changes limits old new old_front new_front of_old of_new =
    changes-merged path_cmp path_cmp_total path_cmp-IsAntisymmetric (database_of old_front) (database_of new_front)
    ∙ (λ i. merged path_cmp (entries_front limits old old_front of_old i) (entries_front limits new new_front of_new i))
