-- The line of a path is one object of JSON and one line: its members are the path and what is there.
use Rattle.std.proofs.Common.{◌≡◌, ◌+◌, ◌/◌, ◌%◌, ◌<◌, Bool, List, None, Option, Some, [], ◌∷◌, ◌++◌, true, ℕ, refl, arith}
use Rattle.std.specs.Prelude.{codes}
use Rattle.std.proofs.lemmas.Bool.{and_from}
use Rattle.std.proofs.lemmas.Bool.Decides.{nat_tests}
use Rattle.std.specs.List.{filter, flat_map}
use Rattle.aide_agreement.specs.Account.{Pair}
use Rattle.aide_agreement.specs.Kind.{kind_word, type_at}
use Rattle.aide_attr.specs.Attr.{all_attrs, detail_name_of, row_of, row}
use Rattle.aide_attr.specs.declared.attr.Attr.{Attr}
use Rattle.aide_attr.specs.declared.attr.Attr.TheVariants as attr
use Rattle.aide_attr.specs.declared.file_type.FileType.{FileType}
use Rattle.aide_attr.specs.declared.file_type.FileType.TheVariants as kind
use Rattle.aide_fields.specs.Attributes.{Attributes, Value, number_value, mode_value, type_value, link_value, digest_value, opaque_value}
use Rattle.aide_json.specs.Value.{member_if_any}
use Rattle.aide_line_text.specs.Attribute.{attribute_member, value_member}
use Rattle.aide_line_text.specs.Entry.{account_member, entry_line, entry_member, path_members, type_member}
use Rattle.aide_line_text.specs.declared.account.Account.{Account}
use Rattle.aide_line_text.specs.declared.account.Account.TheVariants.{LeftOut, Old, Trusted}
use Rattle.aide_text.specs.ValueText.{type_text, octal_text}
use Rattle.aide_line_laws.specs.ByteValues.{AreBytes, IsOfBytes, IsOfBytesIfAny, AreOfBytes, AreOfBytesIfAny}
use Rattle.aide_line_laws.specs.Field.{fields_of}
use Rattle.aide_line_laws.specs.JsonLine.{IsJsonLine}
use Rattle.aide_line_laws.specs.Readable.{AreReadable, HasReadable, are_plain, is_plain}
use Rattle.aide_line_laws.proofs.Printed.{line_is_json}
use Rattle.aide_line_laws.proofs.ReadableLaws.{also, both_readable, count_readable, integer_readable, text_or_null_readable}
use Rattle.aide_line_laws.proofs.ReadableLaws.{text_readable}

plain_type : (k : FileType) → are_plain (type_text k) ≡ true
plain_type kind.File = refl
plain_type kind.Directory = refl
plain_type kind.Link = refl
plain_type kind.Char = refl
plain_type kind.Block = refl
plain_type kind.Fifo = refl
plain_type kind.Socket = refl
plain_type (kind.Other bits) = refl

octal_digit : (n : ℕ) → is_plain (48 + n % 8) ≡ true
octal_digit n = let small : n % 8 < 8 = omega arith in grind (arith, nat_tests, small)

plain_mode : (n : ℕ) → are_plain (octal_text n) ≡ true
plain_mode n =
    and_from _ _ (octal_digit (n / 512)) (and_from _ _ (octal_digit (n / 64))
    (and_from _ _ (octal_digit (n / 8)) (and_from _ _ (octal_digit n) refl)))

plain_detail : (a : Attr) → are_plain (detail_name_of a) ≡ true
unfolding row_of row
plain_detail attr.Ftype = refl
plain_detail _ = refl

value_readable : (name : List ℕ) (value : Value) (most : ℕ) → are_plain name ≡ true → IsOfBytes value
    → HasReadable (value_member name value) most
value_readable name (number_value number) most e h = (e, integer_readable number most)
value_readable name (mode_value mode) most e h = (e, plain_mode mode)
value_readable name (type_value k) most e h = (e, plain_type k)
value_readable name (link_value target) most e h = text_or_null_readable name target most e h
value_readable name (digest_value bytes) most e h = (e, h)
value_readable name (opaque_value bytes) most e h = text_readable name bytes most e h

attribute_readable : (a : Attr) (found : Option Value) (most : ℕ) → IsOfBytesIfAny found
    → AreReadable (member_if_any (value_member (detail_name_of a)) found) most
attribute_readable a None most h = tt
attribute_readable a (Some value) most h =
    also (value_readable (detail_name_of a) value most (plain_detail a) h) tt

-- the attributes that an entry has, as members
attributes_readable : (values : Attributes) (attrs : List Attr) (most : ℕ) → AreOfBytes values
    → AreReadable (flat_map (attribute_member values) attrs) most
attributes_readable values [] most h = tt
attributes_readable values (a ∷ attrs) most h =
    both_readable (attribute_member values a) (flat_map (attribute_member values) attrs) most
    (attribute_readable a (values a) most (h a)) (attributes_readable values attrs most h)

entry_readable : (name : List ℕ) (shows : Attr → Bool) (found : Option Attributes) → are_plain name ≡ true
    → AreOfBytesIfAny found → AreReadable (member_if_any (entry_member name shows) found) 127
entry_readable name shows None e h = tt
entry_readable name shows (Some values) e h = also (e, attributes_readable values (filter shows all_attrs) 126 h) tt

type_readable : (found : Option FileType) → AreReadable (member_if_any type_member found) 127
type_readable None = tt
type_readable (Some k) = also (refl, plain_type k) tt

plain_kind : (found : Pair) → are_plain (kind_word found) ≡ true
plain_kind (None, None) = refl
plain_kind (None, Some new_entry) = refl
plain_kind (Some old_entry, None) = refl
plain_kind (Some old_entry, Some new_entry) = refl

account_readable : (account : Option Account) → AreReadable (member_if_any account_member account) 127
account_readable None = tt
account_readable (Some Old) = also (refl, refl) tt
account_readable (Some Trusted) = also (refl, refl) tt
account_readable (Some (LeftOut number)) = also (refl, count_readable number 127) tt

-- The line of a path is one, if the path is of bytes, the letters need no escape, and each value is of bytes.
pub path_line_is_json : (path letters : List ℕ) (account : Option Account) (shows : Attr → Bool) (found : Pair)
    → AreBytes path → are_plain letters ≡ true → AreOfBytesIfAny found.0 → AreOfBytesIfAny found.1
    → IsJsonLine (entry_line path letters account shows found) (fields_of (path_members path letters account shows found))
unfolding entry_line
path_line_is_json path letters account shows found bytes plain old_bytes new_bytes =
    let t = member_if_any type_member (type_at found) in
    let o = member_if_any (entry_member (codes "old") shows) found.0 in
    let n = member_if_any (entry_member (codes "new") shows) found.1 in
    line_is_json (path_members path letters account shows found)
    (also (refl, plain_kind found) (also (text_readable (codes "path") path 127 refl bytes) (also (refl, plain)
    (both_readable (member_if_any account_member account) (t ++ (o ++ n)) 127 (account_readable account)
    (both_readable t (o ++ n) 127 (type_readable (type_at found))
    (both_readable o n 127 (entry_readable (codes "old") shows found.0 refl old_bytes)
    (entry_readable (codes "new") shows found.1 refl new_bytes)))))))
