-- How the values of attributes are written.
use Rattle.std.specs.Prelude.{ℕ, ℤ, ◌+◌, ◌/◌, ◌%◌, Bool, if◌then◌else◌, List, [], ◌∷◌, Option, Some}
use Rattle.std.specs.Prelude.{None, nat_abs, codes}
use Rattle.std.specs.Fmt.{signed_decimal}
use Rattle.base64.specs.Engines.{standard}
use Rattle.base64.specs.GeneralPurpose.{encode_of}
use Rattle.hex.specs.Hex.{encode_lower}
use Rattle.aide_attr.specs.Attr.{form_of}
use Rattle.aide_attr.specs.declared.attr.Attr.{Attr}
use Rattle.aide_attr.specs.declared.file_type.FileType.{FileType}
use Rattle.aide_attr.specs.declared.file_type.FileType.TheVariants.{File, Directory, Char, Block}
use Rattle.aide_attr.specs.declared.file_type.FileType.TheVariants.{Link as SymbolicLink, Fifo}
use Rattle.aide_attr.specs.declared.file_type.FileType.TheVariants.{Socket, Other}
use Rattle.aide_attr.specs.declared.form.Form.{Form}
use Rattle.aide_attr.specs.declared.form.Form.TheVariants.{Kind, Mode, Number, Time, Link}
use Rattle.aide_attr.specs.declared.form.Form.TheVariants.{Digest, Opaque}
use Rattle.aide_fields.specs.Attributes.{Attributes, Value, type_in, link_in, number_in, digest_in}
use Rattle.aide_fields.specs.Attributes.{opaque_in}
use Rattle.aide_text.specs.Printed.{printed}

-- how a type of file is written
abbrev pub type_text : FileType → List ℕ
type_text File = codes "File"
type_text Directory = codes "Directory"
type_text SymbolicLink = codes "Link"
type_text Char = codes "Character device"
type_text Block = codes "Block device"
type_text Fifo = codes "FIFO"
type_text Socket = codes "Socket"
type_text (Other bits) = codes "Other"

-- four octal digits
abbrev pub octal_text : ℕ → List ℕ
octal_text n = (48 + n / 512 % 8) ∷ (48 + n / 64 % 8) ∷ (48 + n / 8 % 8) ∷ (48 + n % 8) ∷ []

-- how a mode is written
abbrev pub mode_text : ℤ → List ℕ
mode_text n = octal_text (nat_abs n)

-- how a link name is written, or the empty text if there is none
abbrev pub printed_link : Option (List ℕ) → List ℕ
printed_link None = []
printed_link (Some name) = printed name

-- how a digest is written, in base 16 or base 64
unfoldable pub digest_text : Bool → List ℕ → List ℕ
digest_text base16 bytes = if base16 then encode_lower bytes else encode_of standard bytes

-- the text of a value, or the empty text if there is no value
abbrev pub option_text : {X : Type 0} → (X → List ℕ) → Option X → List ℕ
option_text text None = []
option_text text (Some x) = text x

-- the text of a value of this form
abbrev pub value_in : Bool → Form → Option Value → List ℕ
value_in base16 Kind value = option_text type_text (type_in value)
value_in base16 Link value = option_text printed_link (link_in value)
value_in base16 Mode value = option_text mode_text (number_in value)
value_in base16 Number value = option_text signed_decimal (number_in value)
value_in base16 Time value = option_text signed_decimal (number_in value)
value_in base16 (Digest least most) value = option_text (digest_text base16) (digest_in value)
value_in base16 Opaque value = option_text printed (opaque_in value)

-- the text of an attribute's value by its form, or the empty text if there is no value
abbrev pub text_at : Bool → Attr → Option Value → List ℕ
text_at base16 a value = value_in base16 (form_of a) value

-- the text of an attribute's value on one side; it is also empty if the side lacks the entry
abbrev pub side_text : Bool → Attr → Option Attributes → List ℕ
side_text base16 a None = []
side_text base16 a (Some attributes) = text_at base16 a (attributes a)
