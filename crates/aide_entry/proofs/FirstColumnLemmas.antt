-- Where the first column of a kind stands.
use Rattle.std.proofs.Common.{◌≡◌, ℕ, ◌+◌, ◌-◌, ◌<◌, ◌≢◌, List, [], ◌∷◌, ◌++◌, length, take, drop, set, get_or, replicate, map, suc, zero}
use Rattle.std.proofs.Common.{refl, sym, ap, ◌∙◌, rules}
use Rattle.std.proofs.Common.{Bool, true, false, Option, None, Some, arith, get_or-set_same, get_or-set_other}
use Rattle.std.proofs.lemmas.Bool.{cases_eq, eq-eqb, ne_eqb}
use Rattle.std.proofs.lemmas.List.{drop_all, get_or-replicate, take_more_set, map-append}
use Rattle.aide_attr.specs.Attr.{index}
use Rattle.aide_entry.specs.code.Codes.{code_of}
use Rattle.aide_entry.specs.Entry.{is_on}
use Rattle.aide_entry.specs.Fields.{field_under, is_column}
use Rattle.aide_entry.specs.code.FirstColumns.{AreFirstColumns, first_column, one_behind, field_at_first, bits_said, is_set}
use Rattle.aide_fields.specs.Spans.{first_in}
use Rattle.aide_entry.specs.declared.column.Column.{Column}
use Rattle.aide_entry.specs.declared.column.Column.TheVariants.{Name, Bits, Of, Skipped}
use Rattle.aide_entry.proofs.ColumnLemmas.{column_is, code_fits}

code_small : (c : Column) → code_of c < 64
code_small (Of attr) = code_fits attr
code_small _ = omega arith

itself : (c : Column) → is_column c c ≡ true
itself (Of attr) = eq-eqb (index attr) (index attr) refl
itself _ = refl

other : (a b : Column) → code_of a ≢ code_of b → is_column a b ≡ false
other Name Name ne = absurd (ne refl)
other Bits Bits ne = absurd (ne refl)
other Skipped Skipped ne = absurd (ne refl)
other (Of a) (Of b) ne = ne_eqb (index a) (index b) (λ e. ne (ap (λ n. 3 + n) e))
other Name Skipped ne = refl
other Name (Of b) ne = refl
other Bits Name ne = refl
other Bits Skipped ne = refl
other Bits (Of b) ne = refl
other Skipped Name ne = refl
other Skipped (Of b) ne = refl
other (Of a) Name ne = refl
other (Of a) Skipped ne = refl
other _ Bits ne = refl

-- ---- what stands under the first column of a kind

nothing_at : (first : ℕ) → None ≡ field_at_first first []
nothing_at zero = refl
nothing_at (suc index) = sym (ap first_in (drop_all {X = List ℕ} index [] (omega arith)))

behind : (first : ℕ) (field : List ℕ) (fields : List (List ℕ))
    → field_at_first first fields ≡ field_at_first (one_behind first) (field ∷ fields)
behind zero field fields = refl
behind (suc index) field fields = refl

field_placed : (test : Column → Bool) (cs : List Column) (fields : List (List ℕ))
    → field_under test cs fields ≡ field_at_first (first_column test cs) fields
field_placed test [] fields = refl
field_placed test (c ∷ cs) [] = nothing_at (first_column test (c ∷ cs))
field_placed test (c ∷ cs) (field ∷ fields) = search (rules, field_placed test cs fields)

-- ---- a column more

-- where the first one is, once a column at this index is added
after : ℕ → Bool → ℕ → ℕ
after zero true index = suc index
after zero false index = 0
after (suc first) b index = suc first

placed_more : (test : Column → Bool) (cs : List Column) (c : Column)
    → first_column test (cs ++ c ∷ []) ≡ after (first_column test cs) (test c) (length cs)
unfolding after
placed_more test [] c = search rules
placed_more test (x ∷ cs) c = search (rules, placed_more test cs c)

-- without columns there is none
pub none_placed : AreFirstColumns (replicate 64 0) []
none_placed wanted = get_or-replicate 64 (code_of wanted) 0 0 (code_small wanted)

module _ (firsts : List ℕ) (cs : List Column) (c : Column) (are : AreFirstColumns firsts cs) where
  other_placed : (wanted : Column) → code_of wanted ≢ code_of c
      → get_or firsts (code_of wanted) 0 ≡ first_column (is_column wanted) (cs ++ c ∷ [])
  unfolding after
  other_placed wanted ne = search (rules, placed_more, other)

  -- the first column of its kind is added
  pub first_placed : (first : ℕ) → length firsts ≡ 64 → first ≡ length cs + 1 → get_or firsts (code_of c) 0 ≡ 0
      → AreFirstColumns (set firsts (code_of c) first) (cs ++ c ∷ [])
  unfolding after
  first_placed first long is none wanted =
      search (rules, cases_eq, column_is, code_small, get_or-set_same, placed_more, itself, get_or-set_other, other_placed)

  -- a further column of its kind is added
  pub again_placed : (get_or firsts (code_of c) 0 ≡ 0 → ⊥) → AreFirstColumns firsts (cs ++ c ∷ [])
  unfolding after
  again_placed some wanted = search (rules, cases_eq, column_is, placed_more, other_placed)

-- a function of each column, kept beside the first ones
pub pushed_map : {A B : Type 0} (f : A → B) (xs : List B) (kinds : List A) (count : ℕ) (x : B) (c : A) → count < length xs
    → count < length kinds → x ≡ f c → take count xs ≡ map f (take count kinds)
    → take (count + 1) (set xs count x) ≡ map f (take (count + 1) (set kinds count c))
pushed_map f xs kinds count x c lt less is same = search (rules, take_more_set, map-append)

-- ---- what is looked up

at_first : (first : ℕ) (fields : List (List ℕ)) → (first ≡ 0 → ⊥)
    → field_at_first first fields ≡ first_in (drop (first - 1) fields)
at_first zero fields some = absurd (some refl)
at_first (suc index) fields some = let e : suc index - 1 ≡ index = omega arith in rw e refl

module _ (firsts : List ℕ) (cs : List Column) (wanted : Column) (code : ℕ) (is : code ≡ code_of wanted)
    (are : AreFirstColumns firsts cs) where
  first_is : get_or firsts code 0 ≡ first_column (is_column wanted) cs
  first_is = ap (λ k. get_or firsts k 0) is ∙ are wanted

  pub none_found : get_or firsts code 0 ≡ 0 → (fields : List (List ℕ)) → field_under (is_column wanted) cs fields ≡ None
  none_found none fields =
      field_placed (is_column wanted) cs fields ∙ ap (λ p. field_at_first p fields) (sym first_is ∙ none)

  pub some_found : (get_or firsts code 0 ≡ 0 → ⊥) → (fields : List (List ℕ))
      → field_under (is_column wanted) cs fields ≡ first_in (drop (get_or firsts code 0 - 1) fields)
  some_found some fields = search (rules, field_placed, first_is, at_first)

-- ---- bits

pub set_is_on : (bit : Option ℕ) (field : Option (List ℕ)) → is_set bit (bits_said field) ≡ is_on bit field
set_is_on None field = refl
set_is_on (Some bit) None = refl
set_is_on (Some bit) (Some field) = refl
