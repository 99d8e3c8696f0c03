-- Values of JSON (RFC 8259), and the text that each is printed as.
use Rattle.std.specs.Prelude.{ℕ, Bool, true, false, if◌then◌else◌, List, [], ◌∷◌, ◌++◌, Option}
use Rattle.std.specs.Prelude.{Some, None, codes}
use Rattle.std.specs.Str.{is_utf8}
use Rattle.aide_json.specs.Json.{json_string, hex_string, quoted}
use Rattle.aide_json.specs.Object.{array as array_text, object as object_text}
use Rattle.aide_json.specs.Object.{line as line_text}

mutual
  -- A value. A number has its digits. A string is a word, which needs no escape, a text that is UTF-8,
  -- or any bytes in base 16.
  pub data Value : Type 0 where
    null : Value
    truth : Bool → Value
    number : (digits : List ℕ) → Value
    word : List ℕ → Value
    text : List ℕ → Value
    base16 : List ℕ → Value
    array : Values → Value
    object : Members → Value

  -- the values of an array, one after another
  pub data Values : Type 0 where
    no_values : Values
    value : Value → Values → Values

  -- the members of an object, one after another: each has a name, which needs no escape, and a value
  pub data Members : Type 0 where
    no_members : Members
    member : (name : List ℕ) → Value → Members → Members

-- a name, which needs no escape, and its value
abbrev pub Member : Type 0
Member = List ℕ × Value

-- the name of a member and the colon
unfoldable pub name_colon : List ℕ → List ℕ
name_colon name = 34 ∷ (name ++ 34 ∷ 58 ∷ [])

abbrev mutual
  -- the text of a value
  pub print : Value → List ℕ
  print null = codes "null"
  print (truth true) = codes "true"
  print (truth false) = codes "false"
  print (number digits) = digits
  print (word bytes) = quoted bytes
  print (text bytes) = json_string bytes
  print (base16 bytes) = hex_string bytes
  print (array all) = array_text (value_texts all)
  print (object all) = object_text (member_texts all)

  -- the texts of all
  pub value_texts : Values → List (List ℕ)
  value_texts no_values = []
  value_texts (value one more) = print one ∷ value_texts more

  -- the texts of all, each with its name
  pub member_texts : Members → List (List ℕ)
  member_texts no_members = []
  member_texts (member name one more) = (name_colon name ++ print one) ∷ member_texts more

-- the text of a member
abbrev pub print_member : Member → List ℕ
print_member named = name_colon named.0 ++ print named.1

-- values, in this order
abbrev pub values_of : List Value → Values
values_of [] = no_values
values_of (one ∷ more) = value one (values_of more)

-- members, in this order
abbrev pub members_of : List Member → Members
members_of [] = no_members
members_of (named ∷ more) = member named.0 named.1 (members_of more)

-- the texts of members
abbrev pub texts_of : List Member → List (List ℕ)
texts_of all = member_texts (members_of all)

-- an object of these members, and the end of its line
abbrev pub line : List Member → List ℕ
line all = line_text (texts_of all)

-- a member whose value is a text; if that is not UTF-8, its bytes in base 16 under another name
abbrev pub text_member : (name bytes : List ℕ) → Member
text_member name bytes =
    if is_utf8 bytes then (name, text bytes) else (name ++ codes "_hex", base16 bytes)

-- a member whose value is a text, or null if there is none
abbrev pub text_or_null : (name : List ℕ) → Option (List ℕ) → Member
text_or_null name None = (name, null)
text_or_null name (Some bytes) = text_member name bytes

-- the member of what may be there
abbrev pub member_if_any : {X : Type 0} → (X → Member) → Option X → List Member
member_if_any named None = []
member_if_any named (Some x) = named x ∷ []
