-- A text that is not sound has a first fault.
use Rattle.std.proofs.Common.{◌∙◌, ◌≡◌, ℕ, ◌+◌, ◌≤◌, List, [], ◌∷◌, ◌++◌, length, refl, sym, subst, true, false, rules}
use Rattle.std.proofs.Common.{append_assoc, append-nil, Some, inl, inr}
use Rattle.std.specs.Prelude.{nat_le, ◌⊎◌}
use Rattle.std.proofs.lemmas.Bool.{leb-true}
use Rattle.std.proofs.lemmas.List.Elements.{All-nil}
use Rattle.aide_db.proofs.FirstFault.{whole_uncut}
use Rattle.aide_fields.specs.Text.{lines}
use Rattle.aide_db.specs.Database.{counted, IsShort, IsFront, IsDatabase, IsSound, whole_lines, IsFirstFault, cut_kind, end_kind}
use Rattle.aide_db.specs.code.LineFault.{line_fault}
use Rattle.aide_db.specs.Parts.{IsOpen}
use Rattle.aide_db.specs.declared.limits.Limits.{Limits}
use Rattle.aide_entry.specs.declared.fault_kind.DbFaultKind.{DbFaultKind}
use Rattle.aide_db.proofs.LinesLemmas.{lines_plain, ended_plain, AreLines}
use Rattle.aide_db.proofs.Front.{open_more, open_end, open_front, open_unsound, bad_line, database_front}
use Rattle.aide_db.proofs.FaultOrderLemmas.{first_of_open}

-- some line has a fault, or the end, and none before it
abbrev pub HasFirstFault : Limits → List ℕ → Type 0
HasFirstFault limits text = (line : ℕ) × (kind : DbFaultKind) × IsFirstFault limits text line kind

record HasBadLine (limit : ℕ) (all : List (List ℕ)) : Type 0 where
  front : List (List ℕ)
  line : List ℕ
  after : List (List ℕ)
  kind : DbFaultKind
  parts : all ≡ front ++ line ∷ after
  is_open : IsOpen limit front
  fault : line_fault limit front line ≡ Some kind

abbrev Walked : ℕ → List (List ℕ) → Type 0
Walked limit all = IsOpen limit all ⊎ (IsDatabase limit all ⊎ HasBadLine limit all)

walk : (limit : ℕ) (before rest : List (List ℕ)) → IsOpen limit before → Walked limit (before ++ rest)
walk limit before [] is_open = inl (subst (IsOpen limit) (sym (append-nil before)) is_open)
walk limit before (l ∷ rest) is_open = search (rules, walk limit (before ++ l ∷ []) rest, open_end, append_assoc, open_more)

AreLines-front : (xs ys : List (List ℕ)) → AreLines (xs ++ ys) → AreLines xs
AreLines-front [] ys a = tt
AreLines-front (x ∷ xs) ys a = (a.0, AreLines-front xs ys a.1)

whole_plain : (limits : Limits) (text : List ℕ) → AreLines (whole_lines limits text)
unfolding whole_lines
whole_plain limits text = search (rules, AreLines, lines_plain, ended_plain)

pub open_nil : (limit : ℕ) → IsOpen limit []
open_nil limit = record { no_end = refl; short = All-nil (IsShort limit); part = tt }

at_cut : (limits : Limits) (text : List ℕ) → nat_le (length text) limits.bytes ≡ false
    → IsFront limits.line (whole_lines limits text) → HasFirstFault limits text
at_cut limits text e good = (
  length (whole_lines limits text) + 1,
  cut_kind limits text,
  inr (inl (record { long = e; good = good; number_is = refl; kind_is = refl })),
)

at_open : (limits : Limits) (text : List ℕ) → 14 ≤ limits.line → IsOpen limits.line (whole_lines limits text)
    → HasFirstFault limits text
at_open limits text le is_open =
    let good = open_front limits.line (whole_lines limits text) le (whole_plain limits text) is_open in
    elim (nat_le (length text) limits.bytes) as (λ b. nat_le (length text) limits.bytes ≡ b → HasFirstFault limits text) [
      | true ↦ λ e.
          let same = whole_uncut limits text e in (
            length (lines text) + 1,
            end_kind (counted (lines text)),
            inr (inr (record {
              whole = e;
              good = subst (IsFront limits.line) same good;
              unsound = open_unsound limits.line (lines text) (subst (IsOpen limits.line) same is_open);
              number_is = refl;
              kind_is = refl;
            })),
          )
      | false ↦ λ e. at_cut limits text e good
    ] refl

at_database : (limits : Limits) (text : List ℕ) → IsDatabase limits.line (whole_lines limits text)
    → IsSound limits text ⊎ HasFirstFault limits text
at_database limits text d = search (rules, whole_uncut, leb-true, at_cut, database_front, whole_plain)

at_bad : (limits : Limits) (text : List ℕ) → 14 ≤ limits.line → HasBadLine limits.line (whole_lines limits text)
    → HasFirstFault limits text
at_bad limits text le b =
    let plain = AreLines-front b.front (b.line ∷ b.after) (subst AreLines b.parts (whole_plain limits text)) in (
      length b.front + 1,
      b.kind,
      inl (record {
        before = b.front;
        line = b.line;
        after = b.after;
        parts = b.parts;
        number_is = refl;
        good = open_front limits.line b.front le plain b.is_open;
        bad = bad_line limits.line b.front b.line b.kind b.is_open b.fault;
        kind_is = sym (first_of_open limits.line b.front b.line b.is_open) ∙ b.fault;
      }),
    )

-- a text is sound, or it has a first fault
pub sound_or_fault : (limits : Limits) (text : List ℕ) → 14 ≤ limits.line
    → IsSound limits text ⊎ HasFirstFault limits text
sound_or_fault limits text le =
    elim (walk limits.line [] (whole_lines limits text) (open_nil limits.line)) [
      | inl is_open ↦ inr (at_open limits text le is_open)
      | inr more ↦ elim more [
        | inl d ↦ at_database limits text d
        | inr b ↦ inr (at_bad limits text le b)
      ]
    ]
