-- The attributes that are a machine's own, and the digests that distinguish two contents.
use Rattle.std.specs.Prelude.{ℕ, nat_le, Bool, true, false, not, ◌&&◌, ◌||◌, List, [], ◌∷◌}
use Rattle.std.specs.List.{list_any}
use Rattle.aide_attr.specs.Attr.{form_of}
use Rattle.aide_attr.specs.Set.{is_attr}
use Rattle.aide_attr.specs.declared.attr.Attr.{Attr}
use Rattle.aide_attr.specs.declared.attr.Attr.TheVariants as attr
use Rattle.aide_attr.specs.declared.file_type.FileType.{FileType}
use Rattle.aide_attr.specs.declared.file_type.FileType.TheVariants.{Block, Char, Directory}
use Rattle.aide_attr.specs.declared.form.Form.{Form}
use Rattle.aide_attr.specs.declared.form.Form.TheVariants.{Digest}

-- what each machine has of its own, so that machines with the same files differ in it: times, inodes and blocks
abbrev pub own_attrs : List Attr
own_attrs = attr.Atime ∷ attr.Mtime ∷ attr.Ctime ∷ attr.Inode ∷ attr.Bcount ∷ []

-- What a machine has of its own in a directory too: its size, which depends on the file system. The link count does
-- not: on most file systems it is the number of subdirectories and two, so it shows one that no entry names.
abbrev pub directory_attrs : List Attr
directory_attrs = attr.Size ∷ []

-- whether a machine has the attribute of its own, in a directory or elsewhere
abbrev pub is_own : Bool → Attr → Bool
is_own directories a =
    list_any (is_attr a) own_attrs || (directories && list_any (is_attr a) directory_attrs)

-- whether the type is that of directories
abbrev pub is_directory : FileType → Bool
is_directory Directory = true
is_directory _ = false

-- whether the type is that of devices, whose numbers no database has
abbrev pub is_device : FileType → Bool
is_device Char = true
is_device Block = true
is_device _ = false

-- whether values of this form are digests
abbrev pub is_digest_form : Form → Bool
is_digest_form (Digest least most) = true
is_digest_form _ = false

-- the fewest bytes that the digests of a form have
abbrev pub least_bytes : Form → ℕ
least_bytes (Digest least most) = least
least_bytes _ = 0

-- whether the attribute is a digest
abbrev pub is_digest : Attr → Bool
is_digest a = is_digest_form (form_of a)

-- what says where a link leads, and how many names a file or a directory has
abbrev pub link_attrs : List Attr
link_attrs = attr.Lname ∷ attr.Linkcount ∷ []

-- Whether the attribute says who may do what with a file, or what it is: no machine's own, no size, no digest, no
-- target and not the link count. This leaves the type, the permissions, the owner, the group, the access list, extended
-- attributes, the label, flags and capabilities.
abbrev pub is_right : Attr → Bool
is_right a = not (is_own true a || (is_digest a || list_any (is_attr a) link_attrs))

-- what says what a content is, beside its digests: the type of the file, its size, and the target of a link
abbrev pub content_attrs : List Attr
content_attrs = attr.Ftype ∷ attr.Size ∷ attr.Lname ∷ []

-- whether the attribute says what the content is, and no machine has it of its own
abbrev pub is_content : (directories : Bool) → Attr → Bool
is_content directories a =
    (is_digest a || list_any (is_attr a) content_attrs) && not (is_own directories a)

-- whether the attribute is a digest of at least 256 bits
abbrev pub is_strong : Attr → Bool
is_strong a = nat_le 32 (least_bytes (form_of a))
