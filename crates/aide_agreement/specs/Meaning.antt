-- What it means that two entries agree, in facts.
use Rattle.std.specs.Prelude.{◌≡◌, ◌≢◌, ℕ, true, false, List, Some, is_some}
use Rattle.aide_attr.specs.declared.attr.Attr.{Attr}
use Rattle.aide_attr.specs.declared.attr.Attr.TheVariants.{Ftype, Gid, Lname, Perm, Uid}
use Rattle.aide_attr.specs.declared.file_type.FileType.{FileType}
use Rattle.aide_attr.specs.declared.file_type.FileType.TheVariants.{File, Link, Other}
use Rattle.aide_fields.specs.Attributes.{Attributes, Value, link_value, type_in}
use Rattle.aide_agreement.specs.Own.{is_device, is_digest, is_directory, is_own, is_strong}

-- both entries have one digest of at least 256 bits
pub record SharesDigest (first second : Attributes) : Type 0 where
  pub attribute : Attr
  pub value : Value
  pub strong : is_strong attribute ≡ true
  pub in_first : first attribute ≡ Some value
  pub in_second : second attribute ≡ Some value

-- an entry has the name of a link's target
pub record HasTarget (entry : Attributes) : Type 0 where
  pub target : List ℕ
  pub is : entry Lname ≡ Some (link_value (Some target))

-- an entry says who may do what with its file: it has permissions, an owner and a group
pub record SaysRights (entry : Attributes) : Type 0 where
  pub mode : is_some (entry Perm) ≡ true
  pub owner : is_some (entry Uid) ≡ true
  pub group : is_some (entry Gid) ≡ true

-- two entries are the same but for what each machine has of its own, and digests that only one of them has
pub record Agrees (first second : Attributes) : Type 0 where
  pub kind : FileType
  -- both have this type
  pub of_first : type_in (first Ftype) ≡ Some kind
  pub of_second : type_in (second Ftype) ≡ Some kind
  -- which is one of Linux, and not that of devices
  pub known : (bits : ℕ) → kind ≢ Other bits
  pub no_device : is_device kind ≡ false
  -- both say who may do what
  pub rights : SaysRights first × SaysRights second
  -- both have the same value, or neither has one, for every attribute that is neither a machine's own nor a digest
  pub alike : (a : Attr) → is_own (is_directory kind) a ≡ false → is_digest a ≡ false
      → first a ≡ second a
  -- every digest that both have is the same
  pub digests : (a : Attr) → is_digest a ≡ true → (x y : Value) → first a ≡ Some x
      → second a ≡ Some y → x ≡ y
  -- regular files share a digest of at least 256 bits
  pub shared : kind ≡ File → SharesDigest first second
  -- links have a target, which is one, since it is no machine's own
  pub target : kind ≡ Link → HasTarget first × HasTarget second

-- an entry says what its content is: it has a type of Linux other than that of devices, a regular file a digest of at
-- least 256 bits, a link a target
pub record SaysContent (entry : Attributes) : Type 0 where
  pub kind : FileType
  pub of_entry : type_in (entry Ftype) ≡ Some kind
  pub known : (bits : ℕ) → kind ≢ Other bits
  pub no_device : is_device kind ≡ false
  pub shared : kind ≡ File → SharesDigest entry entry
  pub target : kind ≡ Link → HasTarget entry

-- two entries have the same digests, whatever their values
abbrev pub HaveSameDigests : (first second : Attributes) → Type 0
HaveSameDigests first second =
    (a : Attr) → is_digest a ≡ true → is_some (first a) ≡ is_some (second a)
