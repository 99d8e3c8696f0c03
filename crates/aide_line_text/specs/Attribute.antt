-- The attributes of an entry as members, with their exact values, but for types without a name.
use Rattle.std.specs.Prelude.{ℕ, Bool, List}
use Rattle.std.specs.List.{filter, flat_map}
use Rattle.aide_attr.specs.Attr.{all_attrs, detail_name_of}
use Rattle.aide_attr.specs.declared.attr.Attr.{Attr}
use Rattle.aide_fields.specs.Attributes.{Attributes, Value, number_value, mode_value, type_value}
use Rattle.aide_fields.specs.Attributes.{link_value, digest_value, opaque_value}
use Rattle.aide_json.specs.Number.{integer}
use Rattle.aide_json.specs.Value.{Member, base16, member_if_any, text_member, text_or_null, word}
use Rattle.aide_text.specs.ValueText.{type_text, octal_text}

-- A value under a name. A mode has four octal digits, a number and a time have all their digits, and a
-- digest is in base 16. A link name, which is null if there is none, and a value without a meaning of
-- its own are texts.
abbrev pub value_member : List ℕ → Value → Member
value_member name (type_value kind) = (name, word (type_text kind))
value_member name (mode_value mode) = (name, word (octal_text mode))
value_member name (number_value number) = (name, integer number)
value_member name (link_value target) = text_or_null name target
value_member name (digest_value bytes) = (name, base16 bytes)
value_member name (opaque_value bytes) = text_member name bytes

-- an attribute by the name that details have, if the entry has it
abbrev pub attribute_member : Attributes → Attr → List Member
attribute_member values a = member_if_any (value_member (detail_name_of a)) (values a)

-- the attributes that pass and that the entry has, in the order of all attributes
abbrev pub attribute_members : (Attr → Bool) → Attributes → List Member
attribute_members shows values = flat_map (attribute_member values) (filter shows all_attrs)
