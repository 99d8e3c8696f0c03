-- Each entry before a line, from the last one alone.
use Rattle.std.proofs.Common.{◌≡◌, ℕ, ◌<◌, List, [], ◌∷◌, length, refl, sym, ap, ◌∙◌, subst, true, false, arith, get_or}
use Rattle.std.proofs.Common.{suc, Option, Some, eq-eqb, rules}
use Rattle.std.specs.declared.cmp.Ordering.{Ordering}
use Rattle.std.specs.declared.cmp.Ordering.TheVariants.{Less}
use Rattle.std.specs.List.{All, AllPairs, list_all}
use Rattle.std.specs.Ordering.{is_lt}
use Rattle.std.proofs.lemmas.Cmp.{nat_list_cmp_total, lists_total}
use Rattle.std.proofs.lemmas.Bool.{and_from, and_parts, eqb-true}
use Rattle.std.specs.Prelude.{◌==◌}
use Rattle.aide_fields.specs.Path.{pieces, path_cmp}
use Rattle.aide_fields.specs.Text.{last_of, is_filled, fields}
use Rattle.aide_entry.specs.Entry.{is_before, path_of, follows, entry_fault, first_bad, is_path}
use Rattle.aide_entry.specs.EntryLines.{IsBefore, IsEntryLine}
use Rattle.aide_entry.specs.declared.column.Column.{Column}
use Rattle.aide_entry.specs.declared.fault_kind.DbFaultKind.{DbFaultKind}
use Rattle.aide_entry.specs.declared.fault_kind.DbFaultKind.TheVariants.{OutOfOrder}
use Rattle.aide_entry.specs.declared.line.LineKind.TheVariants.{Blank, Other}
use Rattle.aide_entry.specs.Lines.{kind_of}
use Rattle.aide_fields.proofs.FieldLemmas.{no_field}

less_is : (o : Ordering) → is_lt o ≡ true → o ≡ Less
less_is Less e = refl
less_is _ e = cc

path_trans : (x y z : List ℕ) → path_cmp x y ≡ Less → path_cmp y z ≡ Less → path_cmp x z ≡ Less
unfolding path_cmp
path_trans x y z a b = (lists_total nat_list_cmp_total).trans (pieces x) (pieces y) (pieces z) a b

before_trans : (cs : List Column) (x y z : List ℕ) → is_before cs x y ≡ true → is_before cs y z ≡ true
    → is_before cs x z ≡ true
before_trans cs x y z a b =
    ap is_lt (path_trans (path_of cs x) (path_of cs y) (path_of cs z) (less_is _ a) (less_is _ b))

last_at : (y : List ℕ) (es : List (List ℕ)) (d : List ℕ) → last_of (y ∷ es) ≡ get_or (y ∷ es) (length es) d
last_at y [] d = refl
last_at y (z ∷ es) d = last_at z es d

-- with the last one before the line, each is
pub all_before : (cs : List Column) (es : List (List ℕ)) (line : List ℕ) → AllPairs (IsBefore cs) es
    → (0 < length es → is_before cs (last_of es) line ≡ true) → list_all (λ e. is_before cs e line) es ≡ true
all_before cs [] line pairs last = refl
all_before cs (x ∷ []) line pairs last = and_from _ true (last (omega arith)) refl
all_before cs (x ∷ y ∷ es) line pairs last =
    let now : is_before cs (last_of (y ∷ es)) line ≡ true = last (omega arith) in
    let first : is_before cs x (last_of (y ∷ es)) ≡ true = subst (λ (t : List ℕ). is_before cs x t ≡ true) (sym (last_at y es []))
    (pairs 0 (suc (length es)) [] (omega arith) (omega arith)) in
    and_from _ _ (before_trans cs x (last_of (y ∷ es)) line first now)
    (all_before cs (y ∷ es) line (λ i j d lt bound. pairs (suc i) (suc j) d (omega arith) (omega arith)) (λ _. now))

-- and the other way
pub last_before : (cs : List Column) (es : List (List ℕ)) (line : List ℕ)
    → list_all (λ e. is_before cs e line) es ≡ true → 0 < length es → is_before cs (last_of es) line ≡ true
last_before cs [] line all some = absurd (omega arith)
last_before cs (x ∷ []) line all some = (and_parts _ true all).0
last_before cs (x ∷ y ∷ es) line all some =
    last_before cs (y ∷ es) line (and_parts (is_before cs x line) _ all).1 (omega arith)

-- an entry line is not empty
none_blank : kind_of [] ≡ Blank
unfolding kind_of
none_blank = rw no_field refl

pub entry_filled : (l : List ℕ) → kind_of l ≡ Other → is_filled l ≡ true
entry_filled [] is = let b = none_blank in cc
entry_filled (x ∷ l) is = refl

last_filled : (cs : List Column) (y : List ℕ) (es : List (List ℕ)) → All (IsEntryLine cs) (y ∷ es)
    → is_filled (last_of (y ∷ es)) ≡ true
last_filled cs y es each =
    entry_filled (last_of (y ∷ es)) (subst (λ (t : List ℕ). kind_of t ≡ Other) (sym (last_at y es []))
    (each (length es) [] (omega arith)).0)

follows_all : (cs : List Column) (es : List (List ℕ)) (last l : List ℕ) → All (IsEntryLine cs) es
    → AllPairs (IsBefore cs) es → last ≡ last_of es → follows cs last l ≡ true
    → list_all (λ e. is_before cs e l) es ≡ true
follows_all cs [] last l each pairs same after = refl
follows_all cs (y ∷ es) last l each pairs same after =
    all_before cs (y ∷ es) l pairs (λ _. rw (same, last_filled cs y es each) at after)

not_follows : (cs : List Column) (es : List (List ℕ)) (last l : List ℕ) → All (IsEntryLine cs) es → last ≡ last_of es
    → follows cs last l ≡ false → list_all (λ e. is_before cs e l) es ≡ false
not_follows cs [] last l each same after = let h : follows cs [] l ≡ false = rw same at after in cc
not_follows cs (y ∷ es) last l each same after = search (rules, last_filled, last_before)

pub fault_order : (cs : List Column) (es : List (List ℕ)) (last l : List ℕ) → length (fields l) ≡ length cs
    → is_path (path_of cs l) ≡ true → All (IsEntryLine cs) es → last ≡ last_of es → follows cs last l ≡ false
    → Some OutOfOrder ≡ entry_fault cs es l
fault_order cs es last l count path each same after =
    rw (eq-eqb (length (fields l)) (length cs) count, path, not_follows cs es last l each same after) refl

pub fault_form : (cs : List Column) (es : List (List ℕ)) (last l : List ℕ) (found : Option DbFaultKind)
    → length (fields l) ≡ length cs → is_path (path_of cs l) ≡ true → All (IsEntryLine cs) es
    → AllPairs (IsBefore cs) es → last ≡ last_of es → follows cs last l ≡ true
    → found ≡ first_bad cs (fields l) → found ≡ entry_fault cs es l
fault_form cs es last l found count path each pairs same after is =
    is ∙ (rw (eq-eqb (length (fields l)) (length cs) count, path, follows_all cs es last l each pairs same after) refl)

-- a line with no entry before it is in order
pub first_follows : (columns : List Column) (last line : List ℕ) → true ≡ (length last == 0) → true ≡ follows columns last line
first_follows columns [] line e = refl
first_follows columns (x ∷ xs) line e = absurd (omega (arith, eqb-true (length (x ∷ xs)) 0 (sym e)))
