-- Columns of one number are one.
use Rattle.std.proofs.Common.{◌≡◌, ℕ, ◌+◌, ◌<◌, List, [], ◌∷◌, refl, ap, ◌∙◌, arith, map, get_or, drop}
use Rattle.std.proofs.lemmas.Bool.{eq-eqb}
use Rattle.aide_attr.specs.Attr.{index, count}
use Rattle.aide_attr.specs.declared.attr.Attr.{Attr}
use Rattle.aide_attr.proofs.AttrLemmas.{index_small}
use Rattle.aide_attr.proofs.DifferenceLemmas.{attr_is}
use Rattle.aide_entry.specs.code.Codes.{code_of}
use Rattle.aide_entry.specs.declared.column.Column.{Column}
use Rattle.aide_entry.specs.declared.column.Column.TheVariants.{Name, Bits, Of, Skipped}

pub column_is : (a b : Column) → code_of a ≡ code_of b → a ≡ b
column_is Name Name e = refl
column_is Bits Bits e = refl
column_is Skipped Skipped e = refl
column_is (Of a) (Of b) e = ap Of (attr_is a b (eq-eqb (index a) (index b) (omega (arith, e))))
column_is Name Skipped e = absurd (omega (arith, e))
column_is Name (Of b) e = absurd (omega (arith, e))
column_is Bits Name e = absurd (omega (arith, e))
column_is Bits Skipped e = absurd (omega (arith, e))
column_is Bits (Of b) e = absurd (omega (arith, e))
column_is Skipped Name e = absurd (omega (arith, e))
column_is Skipped (Of b) e = absurd (omega (arith, e))
column_is (Of a) Name e = absurd (omega (arith, e))
column_is (Of a) Skipped e = absurd (omega (arith, e))
column_is _ Bits e = absurd (omega (arith, e))

-- lists of columns whose numbers are the same
pub same_codes : (xs ys : List Column) → map code_of xs ≡ map code_of ys → xs ≡ ys
same_codes [] [] e = refl
same_codes [] (y ∷ ys) e = cc
same_codes (x ∷ xs) [] e = cc
same_codes (x ∷ xs) (y ∷ ys) e =
    let first : code_of x ≡ code_of y = ap (λ (ns : List ℕ). get_or ns 0 0) e in
    let more : map code_of xs ≡ map code_of ys = ap (drop 1) e in
    ap (λ (c : Column). c ∷ xs) (column_is x y first) ∙ ap (λ (cs : List Column). y ∷ cs) (same_codes xs ys more)

pub code_fits : (attr : Attr) → 3 + index attr < 64
unfolding count
code_fits attr = omega (arith, index_small attr)
