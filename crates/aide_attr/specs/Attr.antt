-- The table of attributes. All definitions that depend on this table are here.
use Rattle.std.specs.Prelude.{ℕ, List, length, ◌==◌, if◌then◌else◌, codes, find, filter, nat_eq}
use Rattle.std.specs.Prelude.{Option, Some, None}
use Rattle.std.specs.Cmp.Lexicographic.{pointwise}
use Rattle.aide_attr.specs.Byte.{letter}
use Rattle.aide_attr.specs.declared.attr.Attr.{Attr}
use Rattle.aide_attr.specs.declared.attr.Attr.TheVariants as attr
use Rattle.aide_attr.specs.declared.attr.TheConstants.Attr.{ALL}
use Rattle.aide_attr.specs.declared.form.Form.{Form}
use Rattle.aide_attr.specs.declared.form.Form.TheVariants.{Kind, Mode, Number, Time, Link}
use Rattle.aide_attr.specs.declared.form.Form.TheVariants.{Digest, Opaque}

-- A row of the table: the index in the order, from 0; the names in configurations, in details and
-- of the column; the bit of the column `attr`, if there is one; the letter of the slot in a
-- summary string; and the form in which values are written.
pub record Row : Type 0 where
  pub index : ℕ
  pub name : List ℕ
  pub detail_name : List ℕ
  pub column : List ℕ
  pub bit : Option ℕ
  pub slot : ℕ
  pub form : Form

-- a row by its parts
unfoldable pub row : ℕ → List ℕ → List ℕ → List ℕ → Option ℕ → List ℕ → Form → Row
row n name detail_name column bit slot form = record {
  index = n;
  name = name;
  detail_name = detail_name;
  column = column;
  bit = bit;
  slot = letter slot;
  form = form;
}

-- the row of a digest: the column has the digest's name, and the slot is `H`
abbrev pub digest : ℕ → List ℕ → List ℕ → ℕ → ℕ → Row
digest n name detail_name least most =
    row n name detail_name name None (codes "H") (Digest least most)

-- the table of attributes
unfoldable pub row_of : Attr → Row
row_of attr.Ftype = row 0 (codes "ftype") (codes "Type") (codes "perm") None (codes "Y") Kind
row_of attr.Lname = row 1 (codes "l") (codes "Lname") (codes "lname") (Some 1) (codes "l") Link
row_of attr.Size = row 2 (codes "s") (codes "Size") (codes "size") (Some 5) (codes "Z") Number
row_of attr.Bcount =
    row 3 (codes "b") (codes "Bcount") (codes "bcount") (Some 10) (codes "b") Number
row_of attr.Perm = row 4 (codes "p") (codes "Perm") (codes "perm") (Some 2) (codes "p") Mode
row_of attr.Uid = row 5 (codes "u") (codes "UID") (codes "uid") (Some 3) (codes "u") Number
row_of attr.Gid = row 6 (codes "g") (codes "GID") (codes "gid") (Some 4) (codes "g") Number
row_of attr.Atime = row 7 (codes "a") (codes "Atime") (codes "atime") (Some 6) (codes "a") Time
row_of attr.Mtime = row 8 (codes "m") (codes "Mtime") (codes "mtime") (Some 8) (codes "m") Time
row_of attr.Ctime = row 9 (codes "c") (codes "Ctime") (codes "ctime") (Some 7) (codes "c") Time
row_of attr.Inode = row 10 (codes "i") (codes "Inode") (codes "inode") (Some 9) (codes "i") Number
row_of attr.Linkcount =
    row 11 (codes "n") (codes "Linkcount") (codes "lcount") (Some 11) (codes "n") Number
row_of attr.Md5 = digest 12 (codes "md5") (codes "MD5") 16 16
row_of attr.Sha1 = digest 13 (codes "sha1") (codes "SHA1") 20 20
row_of attr.Sha256 = digest 14 (codes "sha256") (codes "SHA256") 32 32
row_of attr.Sha512 = digest 15 (codes "sha512") (codes "SHA512") 64 64
row_of attr.Rmd160 = digest 16 (codes "rmd160") (codes "RMD160") 20 20
row_of attr.Tiger = digest 17 (codes "tiger") (codes "TIGER") 1 64
row_of attr.Crc32 = digest 18 (codes "crc32") (codes "CRC32") 1 64
row_of attr.Crc32b = digest 19 (codes "crc32b") (codes "CRC32B") 1 64
row_of attr.Haval = digest 20 (codes "haval") (codes "HAVAL") 1 64
row_of attr.Gost = digest 21 (codes "gost") (codes "GOST") 1 64
row_of attr.Whirlpool = digest 22 (codes "whirlpool") (codes "WHIRLPOOL") 64 64
row_of attr.Stribog256 = digest 23 (codes "stribog256") (codes "STRIBOG256") 32 32
row_of attr.Stribog512 = digest 24 (codes "stribog512") (codes "STRIBOG512") 64 64
row_of attr.Sha512Of256 = digest 25 (codes "sha512_256") (codes "SHA512/256") 32 32
row_of attr.Sha3Of256 = digest 26 (codes "sha3_256") (codes "SHA3-256") 32 32
row_of attr.Sha3Of512 = digest 27 (codes "sha3_512") (codes "SHA3-512") 64 64
row_of attr.Acl = row 28 (codes "acl") (codes "ACL") (codes "acl") None (codes "A") Opaque
row_of attr.Xattrs =
    row 29 (codes "xattrs") (codes "XAttrs") (codes "xattrs") None (codes "X") Opaque
row_of attr.Selinux =
    row 30 (codes "selinux") (codes "SELinux") (codes "selinux") None (codes "S") Opaque
row_of attr.E2fsattrs =
    row 31 (codes "e2fsattrs") (codes "E2FSAttrs") (codes "e2fsattrs") None (codes "E") Opaque
row_of attr.Caps =
    row 32 (codes "caps") (codes "Caps") (codes "capabilities") None (codes "C") Opaque

-- the place of the attribute in the order, from 0
abbrev pub index : Attr → ℕ
index a = (row_of a).index

-- the name in configurations
abbrev pub name_of : Attr → List ℕ
name_of a = (row_of a).name

-- the name in details
abbrev pub detail_name_of : Attr → List ℕ
detail_name_of a = (row_of a).detail_name

-- the name of the attribute's column in a database
abbrev pub column_of : Attr → List ℕ
column_of a = (row_of a).column

-- the attribute's bit in the column `attr`
abbrev pub bit_of : Attr → Option ℕ
bit_of a = (row_of a).bit

-- the letter of the attribute's slot in a summary string
abbrev pub slot_of : Attr → ℕ
slot_of a = (row_of a).slot

-- how the attribute's column writes the value
abbrev pub form_of : Attr → Form
form_of a = (row_of a).form

-- the most bytes that the digests of a form have
abbrev pub most_bytes : Form → ℕ
most_bytes (Digest least most) = most
most_bytes _ = 0

-- no digest has more bytes than this
abbrev pub longest_digest : ℕ
longest_digest = 64

-- the number of bits of the column `attr`
abbrev pub most_bits : ℕ
most_bits = 64

-- The first attribute with the same column. The type and the permissions share one.
abbrev pub holder_of : Attr → Attr
holder_of a = if index a == index attr.Perm then attr.Ftype else a

-- every attribute, in the order
abbrev pub all_attrs : List Attr
all_attrs = ALL

-- the number of attributes
unfoldable pub count : ℕ
count = length all_attrs

-- the attributes that share a slot of the summary string, by the letter of this slot
abbrev pub attrs_at : ℕ → List Attr
attrs_at slot = filter (λ a. slot_of a == slot) all_attrs

-- the digests, which share the slot `H`
abbrev pub digests : List Attr
digests = attrs_at (letter (codes "H"))

-- the attribute with a name
unfoldable pub attr_named : List ℕ → Option Attr
attr_named n = find (λ a. pointwise nat_eq (name_of a) n) all_attrs

-- the first attribute of a column
unfoldable pub attr_of_column : List ℕ → Option Attr
attr_of_column n = find (λ a. pointwise nat_eq (column_of a) n) all_attrs
