-- What it means that the same happened on a trusted machine, in facts.
use Rattle.std.specs.Prelude.{◌≡◌, ◌≢◌, ◌⊎◌, ⊤, true, Some, None}
use Rattle.aide_attr.specs.declared.attr.Attr.{Attr}
use Rattle.aide_attr.specs.declared.attr.Attr.TheVariants.{Ftype, Linkcount, Lname}
use Rattle.aide_attr.specs.declared.file_type.FileType.{FileType}
use Rattle.aide_attr.specs.declared.file_type.FileType.TheVariants.{File, Link}
use Rattle.aide_fields.specs.Attributes.{Attributes, Value, type_in}
use Rattle.aide_agreement.specs.Account.{Pair}
use Rattle.aide_agreement.specs.Meaning.{Agrees, HasTarget, SaysRights, SharesDigest}
use Rattle.aide_agreement.specs.Own.{is_content, is_directory, is_right}

-- two entries have different values of an attribute
pub record DiffersAt (attribute : Attr) (first second : Attributes) : Type 0 where
  pub first_value : Value
  pub second_value : Value
  pub in_first : first attribute ≡ Some first_value
  pub in_second : second attribute ≡ Some second_value
  pub apart : first_value ≢ second_value

-- Two entries, the second one of this type, surely have the same content: no part of it differs, regular files share a
-- digest of at least 256 bits, and links have targets.
pub record SameContent (kind : FileType) (first second : Attributes) : Type 0 where
  pub parts : (a : Attr) → is_content (is_directory kind) a ≡ true → DiffersAt a first second → ⊥
  pub shared : kind ≡ File → SharesDigest first second
  pub target : kind ≡ Link → HasTarget first × HasTarget second

-- They surely have different contents: a part differs. A target that one of them does not have may be any.
pub record OtherContent (kind : FileType) (first second : Attributes) : Type 0 where
  pub part : Attr
  pub of_content : is_content (is_directory kind) part ≡ true
  pub differs : DiffersAt part first second
  pub target : part ≡ Lname → HasTarget first × HasTarget second

-- no right changed
abbrev pub KeepsRights : (old new : Attributes) → Type 0
KeepsRights old new = (a : Attr) → is_right a ≡ true → old a ≡ new a

-- What changed here, from an old entry to a new one, changed on a trusted machine too, where the entry before became
-- one that agrees with the new one.
pub record ChangedToo (old new before there : Attributes) : Type 0 where
  pub kind : FileType
  pub typed : type_in (new Ftype) ≡ Some kind
  -- the old entry says who may do what
  pub known : SaysRights old
  -- each right that changed was there, before, what it was here
  pub rights : (a : Attr) → is_right a ≡ true → old a ≢ new a → old a ≡ before a
  -- the link count, if it changed, was there what it was here, or is surely another one there
  pub links : old Linkcount ≢ new Linkcount
      → (old Linkcount ≡ before Linkcount) ⊎ DiffersAt Linkcount before there
  -- the content is surely the same here, or surely another one there
  pub content : SameContent kind old new ⊎ OtherContent kind before there

-- The same happened at the path of a trusted machine. Its new entry agrees with the new one here. Both are new; or only
-- that one is, and here no right changed; or that one does not agree with the one before, and what changed here changed
-- there too. Or it had an entry that agrees with the removed one, and has none any more.
abbrev pub HappenedThere : (found trusted : Pair) → Type 0
HappenedThere (None, Some new) (None, Some there) = Agrees new there
HappenedThere (Some old, Some new) (None, Some there) = Agrees new there × KeepsRights old new
HappenedThere (Some old, Some new) (Some before, Some there) =
    Agrees new there × (Agrees before there → ⊥) × ChangedToo old new before there
HappenedThere (Some old, None) (Some before, None) = Agrees old before
HappenedThere _ _ = ⊥

-- ---- what follows of it

-- an attribute went here from one value to another, or came, or went, and so it did on a trusted machine
pub record SameStep (a : Attr) (old new : Attributes) (trusted : Pair) : Type 0 where
  pub before : Attributes
  pub there : Attributes
  pub both : trusted ≡ (Some before, Some there)
  pub from : old a ≡ before a
  pub to : new a ≡ there a
  pub step : before a ≢ there a

-- No right is new here but by the same step on a trusted machine: those of a new entry came with a new one there, and
-- each that changed here changed there, from the same to the same.
abbrev pub RightsCameToo : (found trusted : Pair) → Type 0
RightsCameToo (None, Some new) trusted =
    (there : Attributes) × (trusted ≡ (None, Some there)) × KeepsRights new there
RightsCameToo (Some old, Some new) trusted =
    (a : Attr) → is_right a ≡ true → old a ≢ new a → SameStep a old new trusted
RightsCameToo _ trusted = ⊤
