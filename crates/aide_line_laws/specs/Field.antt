-- What a reader gets of values: values and members of objects, as the kit's reader of JSON gives them.
use Rattle.std.specs.Prelude.{ℕ, List, [], ◌∷◌}
use Rattle.hex.specs.Hex.{encode_lower}
use Rattle.json.specs.Json.{Json, null as json_null, boolean, number as json_number, string}
use Rattle.json.specs.Json.{array as json_array, object as json_object, Items, no_items, item}
use Rattle.json.specs.Json.{Members as JsonMembers, no_members as json_no_members}
use Rattle.json.specs.Json.{member as json_member}
use Rattle.aide_json.specs.Value.{Value, null, truth, number, word, text, base16, array, object}
use Rattle.aide_json.specs.Value.{Values, no_values, value, Members, no_members, member, Member}

-- a name and its value
abbrev pub Field : Type 0
Field = List ℕ × Json

-- the members of an object, in this order
abbrev pub members_of : List Field → JsonMembers
members_of [] = json_no_members
members_of (field ∷ fields) = json_member field.0 field.1 (members_of fields)

abbrev mutual
  -- what is read of a value: of bytes in base 16 it is their digits
  pub json_of : Value → Json
  json_of null = json_null
  json_of (truth is) = boolean is
  json_of (number digits) = json_number digits
  json_of (word bytes) = string bytes
  json_of (text bytes) = string bytes
  json_of (base16 bytes) = string (encode_lower bytes)
  json_of (array all) = json_array (items_in all)
  json_of (object all) = json_object (members_in all)

  -- what is read of the values of an array
  pub items_in : Values → Items
  items_in no_values = no_items
  items_in (value one more) = item (json_of one) (items_in more)

  -- what is read of the members of an object
  pub members_in : Members → JsonMembers
  members_in no_members = json_no_members
  members_in (member name one more) = json_member name (json_of one) (members_in more)

-- what is read of members
abbrev pub fields_of : List Member → List Field
fields_of [] = []
fields_of (named ∷ more) = (named.0, json_of named.1) ∷ fields_of more
