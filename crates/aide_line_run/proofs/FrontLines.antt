-- The lines of a text before its first fault, and where among them a cursor is that has not failed.
use Rattle.std.specs.Prelude.{◌≡◌, ◌≤◌, ◌<◌, ◌+◌, ◌-◌, ℕ, suc, zero, Bool, true, false, cond, List, [], ◌∷◌, ◌++◌, length}
use Rattle.std.specs.Prelude.{take, drop, map}
use Rattle.std.proofs.Common.{◌∙◌, ap, arith, inl, inr, refl, subst, sym}
use Rattle.std.proofs.Math.Seq.{drop-append_seam, take-append-add}
use Rattle.std.proofs.lemmas.Bool.{cases_lt}
use Rattle.std.proofs.lemmas.List.{drop-append-le, length-append, length-drop, map-append, take-append-drop}
use Rattle.std.proofs.lemmas.List.{take-append-le}
use Rattle.std.proofs.lemmas.List.Elements.{filter-append}
use Rattle.aide_fields.specs.Attributes.{Entry}
use Rattle.aide_entry.specs.Entry.{entry_of}
use Rattle.aide_entry.specs.Fields.{columns_of}
use Rattle.aide_entry.specs.Lines.{counts, is_end}
use Rattle.aide_fields.specs.Text.{ended_lines, lines, unfinished_line}
use Rattle.aide_entry.specs.declared.column.Column.{Column}
use Rattle.aide_entry.specs.declared.fault_kind.DbFaultKind.{DbFaultKind}
use Rattle.aide_db.specs.Database.{IsFirstFault, counted, whole_lines}
use Rattle.aide_db.specs.Giving.{before_end, spec_in}
use Rattle.aide_db.specs.Parts.{IsOpen}
use Rattle.aide_db.specs.Stage.{IsStageOf, entries_in}
use Rattle.aide_db.specs.Standing.{IsAmid}
use Rattle.aide_db.specs.declared.limits.Limits.{Limits}
use Rattle.aide_db.specs.declared.stage.Stage.{Stage}
use Rattle.aide_db.proofs.FirstFault.{front_less}
use Rattle.aide_db.proofs.Front.{open_front}
use Rattle.aide_db.proofs.Giving.{lines_after}
use Rattle.aide_db.proofs.LinesLemmas.{ended_behind, first_line, lines_behind, lines_last, lines_more, lines_plain}
use Rattle.aide_db.proofs.Steps.{cut, front_at, total_length, uncut}
use Rattle.aide_db.specs.code.TakeLine.{HasNoNewline}
use Rattle.aide_merge.specs.code.NextEntry.{given}
use Rattle.aide_line_run.specs.BeforeFault.{EndsAtFault}

-- ---- the entries of the first lines

-- the lines of a text that count, up to its end line
abbrev pub head_of : List ℕ → List (List ℕ)
head_of text = counted (before_end (lines text))

-- the entries among these lines, but for the first ones
abbrev pub entries_at : List (List ℕ) → ℕ → List Entry
entries_at head given = map (entry_of (columns_of (spec_in head))) (drop given (entries_in head))

before_more : (ls more : List (List ℕ)) → (rest : List (List ℕ)) × (before_end (ls ++ more) ≡ before_end ls ++ rest)
before_more [] more = (before_end more, refl)
before_more (l ∷ ls) more =
    let rest = before_more ls more in
    elim (is_end l) as (λ b. (r : List (List ℕ))
    × (cond b [] (l ∷ before_end (ls ++ more)) ≡ cond b [] (l ∷ before_end ls) ++ r)) [
      | true ↦ ([], refl)
      | false ↦ (rest.0, ap (λ t. l ∷ t) rest.1)
    ]

pub head_more : (text front : List ℕ) (more : List (List ℕ)) → lines text ≡ lines front ++ more
    → (rest : List (List ℕ)) × (head_of text ≡ head_of front ++ rest)
head_more text front more e =
    let rest = before_more (lines front) more in
    (counted rest.0, ap counted (ap before_end e ∙ rest.1) ∙ filter-append counts (before_end (lines front)) rest.0)

pub heads_cut : (whole head more : List (List ℕ)) (n : ℕ) → whole ≡ head ++ more → n ≤ length (entries_in head)
    → entries_at whole n ≡ entries_at head n ++ entries_at whole (length (entries_in head))
heads_cut whole head more n e le =
    ap (λ w. entries_at w n) e ∙ behind head n le ∙ ap (λ w. entries_at head n ++ entries_at w (length (entries_in head))) (sym e) where
      behind : (head : List (List ℕ)) (n : ℕ) → n ≤ length (entries_in head)
          → entries_at (head ++ more) n ≡ entries_at head n ++ entries_at (head ++ more) (length (entries_in head))
      behind [] zero le = refl
      behind [] (suc n) le = absurd (omega (arith, le))
      behind (x ∷ []) zero le = refl
      behind (x ∷ []) (suc n) le = absurd (omega (arith, le))
      behind (x ∷ y ∷ es) n le =
          let f = entry_of (columns_of y) in
          ap (map f) (drop-append-le n es more le) ∙ map-append f (drop n es) more
          ∙ ap (λ l. map f (drop n es) ++ map f l) (sym (drop-append_seam es more))

pub fewer_entries : (whole head more : List (List ℕ)) → whole ≡ head ++ more → length (entries_in head) ≤ length (entries_in whole)
fewer_entries whole [] more e = omega arith
fewer_entries whole (x ∷ []) more e = omega arith
fewer_entries whole (x ∷ y ∷ es) more e = omega (arith, ap (λ w. length (entries_in w)) e, length-append es more)

-- ---- where a cursor is that has not failed

no_lines : (xs : List ℕ) → lines xs ≡ [] → xs ≡ []
no_lines xs none = elim (first_line xs) [
  | inl f ↦ let e : f.0 ∷ lines f.1 ≡ [] = sym (lines_more f.0 f.1 f.3) ∙ sym (ap lines f.2) ∙ none in cc
  | inr plain ↦ last xs plain none
] where
  last : (xs : List ℕ) → HasNoNewline xs → lines xs ≡ [] → xs ≡ []
  last [] plain none = refl
  last (x ∷ xs) plain none = let e : (x ∷ xs) ∷ [] ≡ [] = sym (lines_last (x ∷ xs) plain) ∙ none in cc

pub tails : (x y : List ℕ) (xs ys : List (List ℕ)) → x ∷ xs ≡ y ∷ ys → xs ≡ ys
tails x y xs ys e = cc

longer_first : (xs ys before after : List (List ℕ)) (l : List ℕ) → xs ++ ys ≡ before ++ l ∷ after → length before < length xs
    → (more : List (List ℕ)) × (xs ≡ before ++ l ∷ more)
longer_first [] ys before after l e lt = absurd (omega (arith, lt))
longer_first (x ∷ xs) ys [] after l e lt = let same : x ≡ l = cc in (xs, ap (λ y. y ∷ xs) same)
longer_first (x ∷ xs) ys (b ∷ before) after l e lt =
    let same : x ≡ b = cc in
    let rest = longer_first xs ys before after l (tails x b (xs ++ ys) (before ++ l ∷ after) e) (omega (arith, lt)) in
    (rest.0, (λ i. same i ∷ rest.1 i))

module _ {limits : Limits} {stage : Stage} {columns : List Column} {at_end : Bool} {used number : ℕ} {list rest text : List ℕ}
    (le : 14 ≤ limits.line) (within : used ≤ limits.bytes)
    (amid : IsAmid limits stage columns at_end used number list rest text) where
  -- the lines up to the byte limit begin with those that were used
  whole_behind : (more : List (List ℕ)) × (whole_lines limits text ≡ lines (take used text) ++ more)
  whole_behind = elim (cases_lt limits.bytes (length text)) [
    | inl lt ↦
        let whole : unfinished_line (take used text) ≡ [] =
        elim at_end as (λ b. at_end ≡ b → unfinished_line (take used text) ≡ []) [
          | true ↦ λ e. absurd (omega (arith, lt, within, total_length text rest used amid.parts amid.count, ap length (amid.ended e)))
          | false ↦ λ e. amid.whole e
        ] refl in (
          ended_lines (take (limits.bytes - used) rest),
          cut limits text lt ∙ ap ended_lines (front_at text rest used limits.bytes amid.parts amid.count within)
              ∙ ended_behind (take used text) (take (limits.bytes - used) rest) whole,
        )
    | inr ge ↦
        let w = lines_after at_end used rest text amid.parts amid.ended amid.whole in (w.0, uncut limits text ge ∙ w.1)
  ]

  -- no faulty line was used
  not_past : (n : ℕ) (kind : DbFaultKind) → IsFirstFault limits text n kind → length (lines (take used text)) + 1 ≤ n
  not_past n kind (inl a) = elim (cases_lt (length a.before) (length (lines (take used text)))) [
    | inl lt ↦
        let w = whole_behind in
        let z = longer_first (lines (take used text)) w.0 a.before a.after a.line (sym w.1 ∙ a.parts) lt in
        absurd (a.bad (front_less limits.line a.before z.0 (lines (take used text)) a.line z.1
        (open_front limits.line (lines (take used text)) le (lines_plain (take used text)) amid.is_open)))
    | inr ge ↦ omega (arith, a.number_is, ge)
  ]
  not_past n kind (inr (inl a)) =
      let w = whole_behind in omega (arith, a.number_is, ap length w.1, length-append (lines (take used text)) w.0)
  not_past n kind (inr (inr a)) =
      let w = lines_after at_end used rest text amid.parts amid.ended amid.whole in
      omega (arith, a.number_is, ap length w.1, length-append (lines (take used text)) w.0)

  module _ {front : List ℕ} (f : EndsAtFault limits text front) where
    used_is_within : used ≤ length front
    used_is_within = elim f.whole [
      | inl whole ↦ elim (cases_lt (length front) used) [
        | inl lt ↦
            let k = used - length front in
            let z = take k f.more in
            let n : used ≡ length front + k = omega (arith, lt) in
            let e : take used text ≡ front ++ z = ap (take used) f.parts ∙ ap (λ n. take n (front ++ f.more)) n
            ∙ take-append-add front f.more k in
            let l : lines (take used text) ≡ lines front ++ lines z = ap lines e ∙ lines_behind front z whole in
            let few : length (lines z) ≤ 0 = omega
            (arith, ap length l, length-append (lines front) (lines z), not_past f.number f.kind f.fault, f.number_is) in
            let none : z ≡ [] = no_lines z (empty (lines z) few) in
            absurd (omega (arith, lt, amid.count, ap length e, length-append front z, ap length none))
        | inr ge ↦ ge
      ]
      | inr none ↦ omega (
        arith,
        total_length text rest used amid.parts amid.count,
        ap length f.parts,
        length-append front f.more,
        ap length none,
      )
    ] where
      empty : (ls : List (List ℕ)) → length ls ≤ 0 → ls ≡ []
      empty [] le = refl
      empty (l ∷ ls) le = absurd (omega (arith, le))

    pub same_used : take used front ≡ take used text
    same_used = sym (ap (take used) f.parts ∙ take-append-le used front f.more used_is_within)

    -- the cursor is at the same place of what comes before the first fault
    pub amid_front : IsAmid limits stage columns at_end used number list (drop used front) front
    amid_front = record {
      parts = sym (take-append-drop used front);
      count = ap length same_used ∙ amid.count;
      ended = λ e. none_left (drop used front) (omega (
        arith,
        length-drop used front,
        ap length f.parts,
        length-append front f.more,
        total_length text rest used amid.parts amid.count,
        ap length (amid.ended e),
      ));
      whole = λ e. ap unfinished_line same_used ∙ amid.whole e;
      is_open = subst (λ (t : List ℕ). IsOpen limits.line (lines t)) (sym same_used) amid.is_open;
      number_is = amid.number_is ∙ ap (λ t. length (lines t)) (sym same_used);
      staged = subst (λ (t : List ℕ). IsStageOf stage columns list (counted (lines t))) (sym same_used) amid.staged;
    } where
      none_left : (xs : List ℕ) → length xs ≤ 0 → xs ≡ []
      none_left [] le = refl
      none_left (x ∷ xs) le = absurd (omega (arith, le))
