-- Texts of bytes, and attributes whose values are of bytes.
use Rattle.std.specs.Prelude.{ℕ, ◌<◌, List, Option, Some, None, ⊤}
use Rattle.std.specs.List.{AllByRecursion}
use Rattle.aide_attr.specs.declared.attr.Attr.{Attr}
use Rattle.aide_fields.specs.Attributes.{Attributes, Value, link_value, digest_value, opaque_value}

-- the text is of bytes
abbrev pub AreBytes : List ℕ → Type 0
AreBytes = AllByRecursion (λ byte. byte < 256)

-- there is no text, or it is of bytes
abbrev pub AreBytesIfAny : Option (List ℕ) → Type 0
AreBytesIfAny None = ⊤
AreBytesIfAny (Some text) = AreBytes text

-- a text in the value is of bytes
abbrev pub IsOfBytes : Value → Type 0
IsOfBytes (link_value name) = AreBytesIfAny name
IsOfBytes (digest_value bytes) = AreBytes bytes
IsOfBytes (opaque_value bytes) = AreBytes bytes
IsOfBytes _ = ⊤

-- there is no value, or it is of bytes
abbrev pub IsOfBytesIfAny : Option Value → Type 0
IsOfBytesIfAny None = ⊤
IsOfBytesIfAny (Some value) = IsOfBytes value

-- each value is of bytes
abbrev pub AreOfBytes : Attributes → Type 0
AreOfBytes values = (attr : Attr) → IsOfBytesIfAny (values attr)

-- there is no entry, or its values are of bytes
abbrev pub AreOfBytesIfAny : Option Attributes → Type 0
AreOfBytesIfAny None = ⊤
AreOfBytesIfAny (Some values) = AreOfBytes values
