-- A plain program that reads an expression byte by byte, as the code does. `Expression` defines
-- what an expression means. It is proved that the program agrees with that definition.
use Rattle.std.specs.Prelude.{ℕ, ◌+◌, Bool, true, false, not, ◌&&◌, ◌||◌, ◌==◌, List, [], ◌∷◌}
use Rattle.std.specs.Prelude.{Option, Some, None, Result}
use Rattle.std.specs.Prelude.{Ok, Err, option_and_then, cond, if◌then◌else◌, codes}
use Rattle.aide_attr.specs.declared.attr.Attr.{Attr}
use Rattle.aide_attr.specs.declared.expression.Stage.{Stage}
use Rattle.aide_attr.specs.declared.expression.Stage.TheVariants.{BeforeName, InName, AfterName}
use Rattle.aide_attr.specs.declared.expression.ExprFault.{ExprFault}
use Rattle.aide_attr.specs.declared.expression.ExprFault.TheVariants.{UnknownName, BadExpression}
use Rattle.aide_attr.specs.Byte.{is_blank, is_name_byte, letter}
use Rattle.aide_attr.specs.Expression.{Term, Lookup}

-- the name bytes at the beginning
abbrev pub name_run : List ℕ → List ℕ
name_run [] = []
name_run (b ∷ bs) = if is_name_byte b then b ∷ name_run bs else []

-- a stage, with the sign of the term at this stage
abbrev pub Spot : Type 0
Spot = Stage × Bool

-- The stage after a byte that follows a name, and the sign of the term there. There is none if the
-- byte cannot follow.
abbrev pub after_step : Bool → ℕ → Option Spot
after_step s b =
    cond (is_blank b) (Some (AfterName, s))
    (cond (b == letter (codes "+")) (Some (BeforeName, true))
    (cond (b == letter (codes "-")) (Some (BeforeName, false)) None))

-- the same for a byte at any stage
abbrev pub step : Stage → Bool → ℕ → Option Spot
step BeforeName s b =
    cond (is_blank b) (Some (BeforeName, s)) (cond (is_name_byte b) (Some (InName, s)) None)
step InName s b = cond (is_name_byte b) (Some (InName, s)) (after_step s b)
step AfterName s b = after_step s b

-- the term that begins with this byte, if one does
abbrev pub begun : Stage → Bool → ℕ → List ℕ → List Term
begun BeforeName s b bs =
    cond (is_name_byte b) (record { adds = s; name = b ∷ name_run bs } ∷ []) []
begun _ s b bs = []

-- the attributes after a term
abbrev pub apply : Bool → Option (Attr → Bool) → (Attr → Bool) → Attr → Bool
apply adds None acc a = acc a
apply true (Some set) acc a = acc a || set a
apply false (Some set) acc a = acc a && not (set a)

-- the attributes after these terms, if all their names are known
abbrev pub taken : Lookup → (Attr → Bool) → List Term → Option (Attr → Bool)
taken look acc [] = Some acc
taken look acc (t ∷ ts) =
    option_and_then (λ set. taken look (apply t.adds (Some set) acc) ts) (look t.name)

-- the answer at the end of the text
abbrev pub finish : Stage → (Attr → Bool) → ℕ → Result (Attr → Bool) ExprFault
finish BeforeName acc i = Err (BadExpression i)
finish _ acc i = Ok acc

-- the answer after a byte: a fault there, or the answer to the rest
abbrev pub after_byte : Option Spot → Option (Attr → Bool) → ℕ
    → (Spot → (Attr → Bool) → Result (Attr → Bool) ExprFault)
    → Result (Attr → Bool) ExprFault
after_byte None known i next = Err (BadExpression i)
after_byte (Some q) None i next = Err (UnknownName i)
after_byte (Some q) (Some acc) i next = next q acc

-- the answer to the bytes from a stage on, by the attributes so far
unfoldable pub walk : Lookup → (Attr → Bool) → Stage → Bool → ℕ → List ℕ
    → Result (Attr → Bool) ExprFault
walk look acc p s i [] = finish p acc i
walk look acc p s i (b ∷ bs) =
    after_byte (step p s b) (taken look acc (begun p s b bs)) i
    (λ q known. walk look known q.0 q.1 (i + 1) bs)
