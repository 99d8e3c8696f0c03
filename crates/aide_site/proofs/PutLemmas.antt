-- What was put on standard error, piece by piece.
use Rattle.std.proofs.Common.{◌≡◌, ◌∙◌, ℕ, ◌+◌, ◌≤◌, List, [], ◌∷◌, ◌++◌, Bool, Option, Some, None, true, false, sym, ap}
use Rattle.std.proofs.Common.{arith, suc, rules}
use Rattle.std.proofs.Math.Path.{subst}
use Rattle.std.proofs.lemmas.Grind.{flat_map-append}
use Rattle.std.proofs.lemmas.List.{append-nil}
use Rattle.std.specs.List.{flat_map}
use Rattle.std.proofs.KnownBytes.{Appends-kept}
use Rattle.std.specs.Io.KnownBytes.{Appends, Keeps}
use Rattle.aide_db.specs.declared.side.Side.{Side}
use Rattle.aide_text.specs.Sheet.{Sheet, WroteBy, Wrote}
use Rattle.aide_text.specs.declared.pen.Pen.{Pen}
use Rattle.aide_text.proofs.Sheets.{wrote_as, wrote_more, wrote_nothing}
use Rattle.aide_site.specs.Lines.{below, line_if_skipped}
use Rattle.aide_site.specs.Put.{Put}

pub appends_none : (a : Option (List ℕ)) → Appends a a []
appends_none None = tt
appends_none (Some x) = sym (append-nil x)

pub put_none : (a : Option (List ℕ)) (n : ℕ) → Put [] a a n n
put_none a n = record { never_falls = omega arith; exact = λ _. appends_none a }

pub put_as : (xs ys : List ℕ) {a b : Option (List ℕ)} {m n : ℕ} → xs ≡ ys → Put xs a b m n → Put ys a b m n
put_as xs ys {a} {b} {m} {n} e p = subst (λ (l : List ℕ). Put l a b m n) e p

-- the same text once it is passed on
pub put_passed : (text : List ℕ) (a b c : Option (List ℕ)) (m n k : ℕ) → Keeps b c → n ≤ k → Put text a b m n
    → Put text a c m k
put_passed text a b c m n k kept more p = search (rules, Appends-kept)

below_more : (n : ℕ) → below (n + 1) ≡ below n ++ n ∷ []
unfolding below
below_more n = let e : n + 1 ≡ suc n = omega arith in ap below e

lines_more : (side : Side) (columns n : ℕ)
    → flat_map (line_if_skipped side columns) (below (n + 1))
    ≡ flat_map (line_if_skipped side columns) (below n) ++ line_if_skipped side columns n
lines_more side columns n = search (rules, below_more, flat_map-append, append-nil)

-- the lines of the columns so far, and the next one
pub next_column : (side : Side) (columns index : ℕ) {a b c : Sheet}
    → Wrote (flat_map (line_if_skipped side columns) (below index)) a b → Wrote (line_if_skipped side columns index) b c
    → Wrote (flat_map (line_if_skipped side columns) (below (index + 1))) a c
next_column side columns index p q = wrote_as (sym (lines_more side columns index)) (wrote_more p q)

pub no_columns : (side : Side) (columns : ℕ) (a : Sheet)
    → Wrote (flat_map (line_if_skipped side columns) (below 0)) a a
unfolding below
no_columns side columns a = wrote_nothing a

pub columns_to : (side : Side) (columns index end : ℕ) {a b : Sheet} → index ≡ end
    → Wrote (flat_map (line_if_skipped side columns) (below index)) a b
    → Wrote (flat_map (line_if_skipped side columns) (below end)) a b
columns_to side columns index end {a} {b} e p =
    subst (λ (k : ℕ). Wrote (flat_map (line_if_skipped side columns) (below k)) a b) e p

-- ---- from a pen to its sink

true_false : true ≡ false → ⊥
true_false e = cc

put_by : (text : List ℕ) (a b : Sheet) (f h : Bool) → f ≡ false → WroteBy f h text a b
    → Put text a.bytes b.bytes a.failures b.failures
put_by text a b true h fresh p = absurd (true_false fresh)
put_by text a b false true fresh p = search rules
put_by text a b false false fresh p =
    record { never_falls = omega (arith, p.1); exact = λ unfailed. p.0.bytes }

-- what a new pen has written is put on its sink
pub put_written : (text : List ℕ) (a b : Sheet) (pen : Pen) → pen ≡ record { sent = 0; failed = false }
    → a.failed ≡ pen.failed → Wrote text a b → Put text a.bytes b.bytes a.failures b.failures
put_written text a b pen fresh same p = put_by text a b a.failed b.failed (same ∙ ap (λ (x : Pen). x.failed) fresh) p.as_flags
