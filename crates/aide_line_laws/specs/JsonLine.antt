-- What a line of JSON lines is, by the grammar of the kit's reader of JSON (RFC 8259).
use Rattle.std.specs.Prelude.{ℕ, ◌≡◌, ◌≤◌, List, ◌∷◌, [], ◌++◌, Some, IsUtf8}
use Rattle.std.specs.List.{AllByRecursion}
use Rattle.json.specs.Json.{object, document}
use Rattle.aide_line_laws.specs.Field.{Field, members_of}

-- The text is the object of these members in UTF-8, and one line feed at its end. Before that no byte
-- is below 32, so it is one line.
pub record IsJsonLine (text : List ℕ) (fields : List Field) : Type 0 where
  pub value : List ℕ
  pub ends : text ≡ value ++ 10 ∷ []
  pub one_line : AllByRecursion (λ byte. 32 ≤ byte) value
  pub utf8 : IsUtf8 value
  pub reads : document value ≡ Some (object (members_of fields))

-- the text is a line with these members, and then another text
pub record BeginsWith (text rest : List ℕ) (fields : List Field) : Type 0 where
  pub line : List ℕ
  pub is_line : IsJsonLine line fields
  pub parts : text ≡ line ++ rest

-- the text is one line for each list of members, one after another
abbrev pub AreJsonLines : List ℕ → List (List Field) → Type 0
AreJsonLines text [] = text ≡ []
AreJsonLines text (fields ∷ more) =
    (rest : List ℕ) × BeginsWith text rest fields × AreJsonLines rest more
