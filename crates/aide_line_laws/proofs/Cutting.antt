-- Where a line of JSON ends is seen from its bytes. So the members of lines that begin other lines are the first members
-- of these, and the rest are lines too.
use Rattle.std.proofs.Common.{◌≡◌, ◌∙◌, ℕ, ◌≤◌, List, [], ◌∷◌, ◌++◌, Some, refl, sym, subst, ap, arith, append_assoc}
use Rattle.std.specs.List.{AllByRecursion}
use Rattle.json.specs.Json.{Members, document, object}
use Rattle.aide_line_laws.specs.Complete.{fields_in}
use Rattle.aide_line_laws.specs.Field.{Field, members_of}
use Rattle.aide_line_laws.specs.JsonLine.{AreJsonLines, BeginsWith, IsJsonLine}

-- no byte is a line feed
abbrev IsVisible : List ℕ → Type 0
IsVisible = AllByRecursion (λ byte. 32 ≤ byte)

pub first_of : (a b : ℕ) (x y : List ℕ) → a ∷ x ≡ b ∷ y → a ≡ b
first_of a b x y e = cc

pub rest_of : (a b : ℕ) (x y : List ℕ) → a ∷ x ≡ b ∷ y → x ≡ y
rest_of a b x y e = cc

cut_once : (v w x y : List ℕ) → IsVisible v → IsVisible w → v ++ 10 ∷ x ≡ w ++ 10 ∷ y → (v ≡ w) × (x ≡ y)
cut_once [] [] x y h k e = (refl, rest_of 10 10 x y e)
cut_once [] (b ∷ w) x y h k e = absurd (omega (arith, first_of 10 b _ _ e, k.0))
cut_once (a ∷ v) [] x y h k e = absurd (omega (arith, first_of a 10 _ _ e, h.0))
cut_once (a ∷ v) (b ∷ w) x y h k e =
    let more = cut_once v w x y h.1 k.1 (rest_of a b _ _ e) in (cc (first_of a b _ _ e, more.0), more.1)

fields_back : (fields : List Field) → fields_in (members_of fields) ≡ fields
fields_back [] = refl
fields_back (field ∷ fields) = ap (λ l. field ∷ l) (fields_back fields)

same_object : (m n : Members) → Some (object m) ≡ Some (object n) → m ≡ n
same_object m n e = cc

-- one value has one list of members
same_fields : (a b : List ℕ) (fields others : List Field) (h : IsJsonLine a fields) (k : IsJsonLine b others)
    → h.value ≡ k.value → fields ≡ others
same_fields a b fields others h k e =
    sym (fields_back fields)
    ∙ ap fields_in (same_object (members_of fields) (members_of others) (sym h.reads ∙ ap document e ∙ k.reads))
    ∙ fields_back others

line_then : (line rest : List ℕ) (fields : List Field) (h : IsJsonLine line fields) → line ++ rest ≡ h.value ++ 10 ∷ rest
line_then line rest fields h = ap (λ l. l ++ rest) h.ends ∙ append_assoc h.value (10 ∷ []) rest

never_empty : (value rest : List ℕ) → value ++ 10 ∷ rest ≡ [] → ⊥
never_empty [] rest e = cc
never_empty (byte ∷ value) rest e = cc

module _ (text whole rest : List ℕ) (fields : List Field) (e : whole ≡ text ++ rest) where
  -- text that begins with a line, and more behind it
  whole_line : (behind : List ℕ) (h : BeginsWith text behind fields)
      → whole ≡ h.is_line.value ++ 10 ∷ (behind ++ rest)
  whole_line behind h =
      e ∙ ap (λ t. t ++ rest) h.parts ∙ append_assoc h.line behind rest ∙ line_then h.line (behind ++ rest) fields h.is_line

-- If lines begin other lines, their members are the first ones of these, and what is behind them are the other lines.
pub first_members : (text whole rest : List ℕ) (all others : List (List Field)) → AreJsonLines text all
    → AreJsonLines whole others → whole ≡ text ++ rest
    → (behind : List (List Field)) × (others ≡ all ++ behind) × AreJsonLines rest behind
first_members text whole rest [] others h k e =
    (others, refl, subst (λ t. AreJsonLines t others) (e ∙ ap (λ t. t ++ rest) h) k)
first_members text whole rest (fields ∷ all) [] h k e =
    absurd (never_empty h.1.is_line.value (h.0 ++ rest) (sym (whole_line text whole rest fields e h.0 h.1) ∙ k))
first_members text whole rest (fields ∷ all) (next ∷ others) h k e =
    let cut =
    cut_once h.1.is_line.value k.1.is_line.value (h.0 ++ rest) k.0 h.1.is_line.one_line k.1.is_line.one_line
    (sym (whole_line text whole rest fields e h.0 h.1) ∙ k.1.parts ∙ line_then k.1.line k.0 next k.1.is_line)
    in
    let more = first_members h.0 k.0 rest all others h.2 k.2 (sym cut.1) in
    let same = same_fields h.1.line k.1.line fields next h.1.is_line k.1.is_line cut.0 in
    (more.0, cc (same, more.1), more.2)
