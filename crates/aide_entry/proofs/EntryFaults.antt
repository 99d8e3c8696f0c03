-- An entry line has no fault, and a line without one is an entry line.
use Rattle.std.proofs.Common.{◌≡◌, ℕ, ◌+◌, List, [], ◌∷◌, length, refl, sym, true, false}
use Rattle.std.proofs.Common.{cond, Bool, not, ◌&&◌, Option, Some, None, eq-eqb, rules}
use Rattle.std.specs.Prelude.{IfNone}
use Rattle.std.specs.List.{list_all, zip}
use Rattle.std.proofs.lemmas.Bool.{and_parts, and_from, eqb-true}
use Rattle.aide_fields.specs.Text.{fields}
use Rattle.aide_entry.specs.Entry.{has_entry, has_form, is_path, is_before, entry_fault, fault_of_column, first_bad_from}
use Rattle.aide_entry.specs.Entry.{first_bad, path_of}
use Rattle.aide_entry.specs.declared.column.Column.{Column}
use Rattle.aide_entry.specs.declared.fault_kind.DbFaultKind.{DbFaultKind}

-- a test that has to be passed, and what is left then
pub guard_none : (b : Bool) (k : DbFaultKind) (o : Option DbFaultKind) → cond (not b) (Some k) o ≡ None
    → (b ≡ true) × (o ≡ None)
guard_none true k o e = (refl, e)
guard_none false k o e = cc

pub guard_pass : (b : Bool) (k : DbFaultKind) (o : Option DbFaultKind) → b ≡ true → cond (not b) (Some k) o ≡ o
guard_pass b k o e = rw e refl

-- no field is bad where all have their forms
none_bad : (i : ℕ) (xs : List (Column × List ℕ)) → first_bad_from i xs ≡ None
    → list_all (λ x. has_form x.0 x.1) xs ≡ true
none_bad i [] e = refl
none_bad i (x ∷ xs) e =
    elim (has_form x.0 x.1) as (λ b. cond b (first_bad_from (i + 1) xs) (Some (fault_of_column x.0 i)) ≡ None
    → (b && list_all (λ y. has_form y.0 y.1) xs) ≡ true) [
      | true ↦ λ h. none_bad (i + 1) xs h
      | false ↦ λ h. cc
    ] e

all_good : (i : ℕ) (xs : List (Column × List ℕ)) → list_all (λ x. has_form x.0 x.1) xs ≡ true
    → first_bad_from i xs ≡ None
all_good i [] e = refl
all_good i (x ∷ xs) e =
    let both = and_parts (has_form x.0 x.1) (list_all (λ y. has_form y.0 y.1) xs) e in
    rw both.0 (all_good (i + 1) xs both.1)

-- an entry line with no fault, after others
pub no_entry_fault : (cs : List Column) (es : List (List ℕ)) (l : List ℕ) → entry_fault cs es l ≡ None
    → (has_entry cs l ≡ true) × (list_all (λ e. is_before cs e l) es ≡ true)
no_entry_fault cs es l none = search (rules, guard_none, and_from, none_bad)

pub has_from : (cs : List Column) (l : List ℕ) → length (fields l) ≡ length cs → is_path (path_of cs l) ≡ true
    → first_bad cs (fields l) ≡ None → has_entry cs l ≡ true
has_from cs l count path none =
    and_from _ _ (and_from _ _ (eq-eqb (length (fields l)) (length cs) count) path) (none_bad 1 (zip cs (fields l)) none)

-- the same of what a search found
pub sound_from : (cs : List Column) (l : List ℕ) (found : Option DbFaultKind) → length (fields l) ≡ length cs
    → is_path (path_of cs l) ≡ true → found ≡ first_bad cs (fields l) → IfNone found (has_entry cs l ≡ true)
sound_from cs l None count path e = has_from cs l count path (sym e)
sound_from cs l (Some kind) count path e = tt

-- what an entry line has
pub entry_parts : (cs : List Column) (l : List ℕ) → has_entry cs l ≡ true
    → (length (fields l) ≡ length cs) × (is_path (path_of cs l) ≡ true) × (first_bad cs (fields l) ≡ None)
entry_parts cs l has = search (rules, and_parts, eqb-true, all_good)

pub entry_is_fine : (cs : List Column) (es : List (List ℕ)) (l : List ℕ) → has_entry cs l ≡ true
    → list_all (λ e. is_before cs e l) es ≡ true → entry_fault cs es l ≡ None
entry_is_fine cs es l has before = search (rules, and_parts, guard_pass, all_good)
