-- What a field means, by its form.
use Rattle.std.specs.Prelude.{ℕ, ℤ, ◌≡◌, ◌/◌, ◌%◌, nat_eq, nat_le, ◌==◌, Bool, true, false, ◌&&◌}
use Rattle.std.specs.Prelude.{◌||◌, if◌then◌else◌, Option, Some}
use Rattle.std.specs.Prelude.{None, is_some, option_map, List, [], ◌∷◌, length, codes, drop}
use Rattle.std.specs.List.{starts_with}
use Rattle.std.specs.Str.{bytes_eq}
use Rattle.percent_encoding.specs.Percent.{percent_decode}
use Rattle.base64.specs.Engines.{standard}
use Rattle.base64.specs.GeneralPurpose.{decoded_of}
use Rattle.aide_attr.specs.declared.file_type.FileType.{FileType}
use Rattle.aide_attr.specs.declared.file_type.FileType.TheVariants.{File, Directory}
use Rattle.aide_attr.specs.declared.file_type.FileType.TheVariants.{Link as SymbolicLink, Char}
use Rattle.aide_attr.specs.declared.file_type.FileType.TheVariants.{Block, Fifo, Socket, Other}
use Rattle.aide_attr.specs.declared.form.Form.{Form}
use Rattle.aide_attr.specs.declared.form.Form.TheVariants.{Kind, Mode, Number, Time, Link, Digest}
use Rattle.aide_attr.specs.declared.form.Form.TheVariants.{Opaque}
use Rattle.aide_fields.specs.Attributes.{Value, number_value, mode_value, type_value, link_value}
use Rattle.aide_fields.specs.Attributes.{digest_value, opaque_value}
use Rattle.aide_fields.specs.Text.{is_filled}
use Rattle.aide_fields.specs.Numbers.{is_digit, mode_of, number_of}

-- the field `0`, which means that there is no value
abbrev pub is_nought : List ℕ → Bool
is_nought field = bytes_eq field (codes "0")

-- ---- types of files and permissions

-- the type of file of these type bits, or none if they are 0
abbrev pub type_of_bits : ℕ → Option FileType
type_of_bits bits =
    if bits == 0 then None else Some (
    if bits == 8 then File else (
    if bits == 4 then Directory else (
    if bits == 10 then SymbolicLink else (
    if bits == 2 then Char else (
    if bits == 6 then Block else (
    if bits == 1 then Fifo else (
    if bits == 12 then Socket else Other bits)))))))

-- the type of file of a mode; its type bits are octal 170000
abbrev pub type_of_mode : Option ℕ → Option FileType
type_of_mode None = None
type_of_mode (Some mode) = type_of_bits (mode / 4096 % 16)

-- ---- times

-- the first byte is a digit or a minus sign
abbrev pub begins_number : List ℕ → Bool
begins_number [] = false
begins_number (first ∷ more) = is_digit 10 first || (first == 45)

-- the number in a text, if there is a text and it is a number
abbrev pub number_in_text : Option (List ℕ) → Option ℤ
number_in_text None = None
number_in_text (Some text) = number_of text

-- the seconds of a field, which is a number or base64 of the text of one
unfoldable pub time_of : List ℕ → Option ℤ
time_of field =
    if begins_number field then number_of field else (
    if nat_le (length field) 44 then number_in_text (decoded_of standard field) else None)

-- the field has seconds, or is empty
abbrev pub IsTimeOrNothing : List ℕ → Type 0
IsTimeOrNothing field = is_filled field ≡ true → is_some (time_of field) ≡ true

-- ---- digests

-- the bytes, if their number is within these bounds
abbrev pub of_length : ℕ → ℕ → Option (List ℕ) → Option (List ℕ)
of_length least most None = None
of_length least most (Some bytes) =
    if nat_le least (length bytes) && nat_le (length bytes) most then Some bytes else None

-- the bytes of a digest: base64 of a number of bytes within these bounds; `0` is not base64
unfoldable pub digest_of : ℕ → ℕ → List ℕ → Option (List ℕ)
digest_of least most field = of_length least most (decoded_of standard field)

-- ---- link names

-- the text of a link name; a leading `00` means `0`
abbrev pub link_text : List ℕ → List ℕ
link_text field = if starts_with nat_eq field (codes "00") then drop 1 field else field

-- the link name of a field: none, the empty one, or a text with escapes
unfoldable pub link_of : List ℕ → Option (List ℕ)
link_of field =
    if is_nought field then None else (
    if bytes_eq field (codes "0-") then Some [] else Some (percent_decode (link_text field)))

-- ---- any form

-- the value of a field of this form, if it has one
abbrev pub value_of : Form → List ℕ → Option Value
value_of Kind field = option_map type_value (type_of_mode (mode_of field))
value_of Mode field = option_map (λ mode. mode_value (mode % 4096)) (mode_of field)
value_of Number field = option_map number_value (number_of field)
value_of Time field = option_map number_value (time_of field)
value_of Link field = Some (link_value (link_of field))
value_of (Digest least most) field = option_map digest_value (digest_of least most field)
value_of Opaque field = if is_nought field then None else Some (opaque_value field)

-- the field is a field of this form
abbrev pub is_field : Form → List ℕ → Bool
is_field Kind field = is_some (mode_of field)
is_field Mode field = is_some (mode_of field)
is_field Number field = is_some (number_of field)
is_field Time field = is_some (time_of field)
is_field Link field = true
is_field (Digest least most) field = is_nought field || is_some (digest_of least most field)
is_field Opaque field = true
