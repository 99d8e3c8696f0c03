-- What a reader gets back from the members of an object.
use Rattle.std.specs.Prelude.{◌≡◌, ℕ, ◌||◌, Bool, if◌then◌else◌, List, [], ◌∷◌, ◌++◌, Option, Some}
use Rattle.std.specs.Prelude.{None}
use Rattle.std.specs.Prelude.{codes, option_and_then}
use Rattle.std.specs.List.{filter}
use Rattle.std.specs.Result.{result_ok}
use Rattle.std.specs.Str.{bytes_eq}
use Rattle.hex.specs.Hex.{decode_of}
use Rattle.json.specs.Json.{Json, string}
use Rattle.aide_json.specs.Number.{count}
use Rattle.aide_line_text.specs.declared.account.Account.{Account}
use Rattle.aide_line_text.specs.declared.account.Account.TheVariants.{LeftOut, Old, Trusted}
use Rattle.aide_line_laws.specs.Field.{Field, json_of}

-- the value under a name: that of the first member of this name
abbrev pub value_under : List ℕ → List Field → Option Json
value_under name [] = None
value_under name (field ∷ fields) =
    if bytes_eq field.0 name then Some field.1 else value_under name fields

-- the text of a string
abbrev pub text_of : Json → Option (List ℕ)
text_of (string text) = Some text
text_of json = None

-- the bytes whose digits in base 16 a string contains
abbrev pub bytes_of : Json → Option (List ℕ)
bytes_of json = option_and_then (λ digits. result_ok (decode_of digits)) (text_of json)

-- the text under a name: that of the string there; if there is no value, the bytes under the name for base 16
abbrev pub text_under : List ℕ → List Field → Option (List ℕ)
text_under name fields = elim (value_under name fields) [
  | Some json ↦ text_of json
  | None ↦ option_and_then bytes_of (value_under (name ++ codes "_hex") fields)
]

-- whether this is a name, or the name that goes with it for base 16
abbrev pub is_name_of : (name own : List ℕ) → Bool
is_name_of name own = bytes_eq own name || bytes_eq own (name ++ codes "_hex")

-- all members under a name, or under the one for base 16
abbrev pub all_under : List ℕ → List Field → List Field
all_under name fields = filter (λ field. is_name_of name field.0) fields

-- ---- what accounts for a change

-- the word for an entry that accounts for a change
abbrev pub same_word : Account → Option Json
same_word Old = Some (string (codes "old"))
same_word Trusted = Some (string (codes "trusted"))
same_word (LeftOut number) = None

-- the number of the line of a list that leaves a change out
abbrev pub line_number : Account → Option Json
line_number (LeftOut number) = Some (json_of (count number))
line_number _ = None

-- A reader finds what accounts for a change: an entry by its word, the line of a list by its number, or nothing.
pub record SaysAccount (account : Option Account) (fields : List Field) : Type 0 where
  pub same_as : value_under (codes "same_as") fields ≡ option_and_then same_word account
  pub left_out : value_under (codes "left_out") fields ≡ option_and_then line_number account
