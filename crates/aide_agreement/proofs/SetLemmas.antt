-- The attributes of the table by what they are: a machine's own, digests, digests of at least 256 bits.
use Rattle.std.proofs.Common.{◌≡◌, ◌≢◌, Bool, true, false, [], ◌∷◌, refl, ap, rules}
use Rattle.std.specs.Prelude.{◌||◌, ◌&&◌, not}
use Rattle.std.proofs.lemmas.Bool.{and_from, and_parts, not-true, not_from_false}
use Rattle.std.specs.List.{list_any}
use Rattle.aide_attr.specs.Attr.{row, row_of}
use Rattle.aide_attr.specs.Set.{is_attr}
use Rattle.aide_attr.specs.declared.attr.Attr.{Attr}
use Rattle.aide_attr.specs.declared.attr.Attr.TheVariants as attr
use Rattle.aide_agreement.specs.Own.{content_attrs, is_content, is_digest, is_own, is_right, is_strong}

-- By cases: the second line of each of these laws covers every further attribute.

-- the list of the code has just the digests of at least 256 bits
pub strong_listed : (a : Attr)
    → list_any (is_attr a) (attr.Sha256 ∷ attr.Sha512 ∷ attr.Whirlpool ∷ attr.Stribog256 ∷ attr.Stribog512
    ∷ attr.Sha512Of256 ∷ attr.Sha3Of256 ∷ attr.Sha3Of512 ∷ []) ≡ is_strong a
unfolding row_of row
strong_listed attr.Ftype = refl
strong_listed _ = refl

-- both lists have just the digests
pub digests_listed : (a : Attr)
    → (list_any (is_attr a) (attr.Sha256 ∷ attr.Sha512 ∷ attr.Whirlpool ∷ attr.Stribog256 ∷ attr.Stribog512
    ∷ attr.Sha512Of256 ∷ attr.Sha3Of256 ∷ attr.Sha3Of512 ∷ [])
    || list_any (is_attr a) (attr.Md5 ∷ attr.Sha1 ∷ attr.Rmd160 ∷ attr.Tiger ∷ attr.Crc32 ∷ attr.Crc32b
    ∷ attr.Haval ∷ attr.Gost ∷ [])) ≡ is_digest a
unfolding row_of row
digests_listed attr.Ftype = refl
digests_listed _ = refl

-- no machine has the type of its own
pub type_not_own : (directories : Bool) → is_own directories attr.Ftype ≡ false
unfolding row_of row
type_not_own true = refl
type_not_own false = refl

own_or_digest : (directories : Bool) (a : Attr) → (is_own directories a && is_digest a) ≡ false
unfolding row_of row
own_or_digest true attr.Ftype = refl
own_or_digest true _ = refl
own_or_digest false attr.Ftype = refl
own_or_digest false _ = refl

-- nor a digest
pub digest_not_own : (directories : Bool) (a : Attr) → is_digest a ≡ true → is_own directories a ≡ false
digest_not_own directories a is = by (is_own directories a) (is_digest a) is (own_or_digest directories a)
  where
    by : (x y : Bool) → y ≡ true → (x && y) ≡ false → x ≡ false
    by false y is e = refl
    by true y is e = cc

strong_or_other : (a : Attr) → (is_strong a && (is_digest a)) ≡ is_strong a
unfolding row_of row
strong_or_other attr.Ftype = refl
strong_or_other _ = refl

-- a digest of at least 256 bits is a digest
pub strong_is_digest : (a : Attr) → is_strong a ≡ true → is_digest a ≡ true
strong_is_digest a is = search (rules, strong_or_other)

-- the type is no digest
pub type_no_digest : is_digest attr.Ftype ≡ false
unfolding row_of row
type_no_digest = refl

-- the attribute is one without which nobody knows who may do what
abbrev pub is_needed : Attr → Bool
is_needed attr.Perm = true
is_needed attr.Uid = true
is_needed attr.Gid = true
is_needed _ = false

-- nor is it a machine's own, or a digest
pub needed_kept : (directories : Bool) (a : Attr) → is_needed a ≡ true → (is_own directories a ≡ false) × (is_digest a ≡ false)
unfolding row_of row
needed_kept true attr.Perm is = (refl, refl)
needed_kept false attr.Perm is = (refl, refl)
needed_kept true attr.Uid is = (refl, refl)
needed_kept false attr.Uid is = (refl, refl)
needed_kept true attr.Gid is = (refl, refl)
needed_kept false attr.Gid is = (refl, refl)
needed_kept true _ is = cc
needed_kept false _ is = cc

-- it is a right
pub needed_right : (a : Attr) → is_needed a ≡ true → is_right a ≡ true
unfolding row_of row
needed_right attr.Perm is = refl
needed_right attr.Uid is = refl
needed_right attr.Gid is = refl
needed_right _ is = cc

-- the link count is neither a machine's own nor a digest
pub links_kept : (directories : Bool) → (is_own directories attr.Linkcount ≡ false) × (is_digest attr.Linkcount ≡ false)
unfolding row_of row
links_kept true = (refl, refl)
links_kept false = (refl, refl)

-- the list of the code has just the rights
pub rights_listed : (a : Attr)
    → list_any (is_attr a) (attr.Ftype ∷ attr.Perm ∷ attr.Uid ∷ attr.Gid ∷ attr.Acl ∷ attr.Xattrs ∷ attr.Selinux
    ∷ attr.E2fsattrs ∷ attr.Caps ∷ []) ≡ is_right a
unfolding row_of row
rights_listed attr.Ftype = refl
rights_listed _ = refl

-- what says what a content is, is no machine's own
pub content_not_own : (directories : Bool) (a : Attr) → is_content directories a ≡ true → is_own directories a ≡ false
content_not_own directories a is = not-true _ (and_parts _ (not (is_own directories a)) is).1

-- the type, the target and digests say what it is
pub type_of_content : (directories : Bool) → is_content directories attr.Ftype ≡ true
unfolding row_of row
type_of_content true = refl
type_of_content false = refl

pub target_of_content : (directories : Bool) → is_content directories attr.Lname ≡ true
unfolding row_of row
target_of_content true = refl
target_of_content false = refl

pub digest_of_content : (directories : Bool) (a : Attr) → is_digest a ≡ true → is_content directories a ≡ true
digest_of_content directories a is =
    and_from (is_digest a || list_any (is_attr a) content_attrs) (not (is_own directories a))
    (ap (λ b. b || list_any (is_attr a) content_attrs) is) (not_from_false _ (digest_not_own directories a is))

-- the target is no digest, and the type is no target
pub target_no_digest : is_digest attr.Lname ≡ false
unfolding row_of row
target_no_digest = refl

pub type_no_target : attr.Ftype ≢ attr.Lname
type_no_target e = cc
