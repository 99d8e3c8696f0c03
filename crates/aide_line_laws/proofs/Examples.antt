-- Worked examples of what is silent, which tools/headline prints under the definitions.
use Rattle.std.proofs.Common.{◌≡◌, ◌∙◌, ◌<◌, ◌^◌, ℕ, Bool, true, false, List, [], ◌∷◌, map, Option, Some, None, refl, sym, ap}
use Rattle.std.proofs.Common.{arith, lit<}
use Rattle.std.specs.Prelude.{◌+◌, ◌*◌, ◌/◌, ◌%◌, pos, if◌then◌else◌, codes, filter}
use Rattle.std.specs.declared.cmp.Ordering.TheVariants.{Less}
use Rattle.json.specs.Json.{string}
use Rattle.percent_encoding.specs.Percent.{percent_decode}
use Rattle.aide_agreement.specs.Account.{Pair, is_as_trusted, same_as}
use Rattle.aide_agreement.specs.Agreement.{agree, have_targets}
use Rattle.aide_agreement.specs.Happened.{DiffersAt, HappenedThere, KeepsRights, OtherContent, SameContent}
use Rattle.aide_agreement.specs.Meaning.{Agrees, HasTarget, SaysRights, SharesDigest}
use Rattle.aide_agreement.specs.Own.{is_content, is_device, is_digest, is_own, is_right, is_strong}
use Rattle.aide_agreement.specs.Trusted.{changed_too, has_other_content, keeps_rights}
use Rattle.aide_agreement.proofs.HappenedLemmas.{changed_means, happened_from, happened_means, kept_from, other_from, other_means}
use Rattle.aide_agreement.proofs.HappenedLemmas.{same_means}
use Rattle.aide_agreement.proofs.Laws.{agree_from_meaning, meaning_of_agree}
use Rattle.aide_attr.specs.Attr.{all_attrs, attr_of_column, count, holder_of, row, row_of}
use Rattle.aide_attr.specs.Difference.{is_added, is_changed, is_removed, is_reported}
use Rattle.aide_attr.specs.Set.{has, is_attr}
use Rattle.aide_attr.specs.declared.attr.Attr.{Attr}
use Rattle.aide_attr.specs.declared.attr.Attr.TheVariants.{Acl, Atime, Bcount, Caps, Ctime, E2fsattrs, Ftype, Gid, Inode}
use Rattle.aide_attr.specs.declared.attr.Attr.TheVariants.{Linkcount, Lname, Md5, Mtime, Perm, Selinux, Sha256, Sha3Of256, Uid, Xattrs}
use Rattle.aide_attr.specs.declared.attr.Attr.TheVariants.{Sha3Of512, Sha512, Sha512Of256, Size, Stribog256, Stribog512, Whirlpool}
use Rattle.aide_attr.specs.declared.delta.Ignore.{Ignore}
use Rattle.aide_attr.specs.declared.file_type.FileType.{FileType}
use Rattle.aide_attr.specs.declared.file_type.FileType.TheVariants.{Block, Directory, Fifo, File, Link as SymbolicLink}
use Rattle.aide_attr.specs.declared.form.Form.TheVariants.{Kind, Link, Mode, Opaque}
use Rattle.aide_attr.specs.declared.set.AttrSet.{AttrSet}
use Rattle.aide_db.specs.Map.{entries_of}
use Rattle.aide_fields.specs.Attributes.{Attributes, Value, digest_value, is_different, link_value, mode_value, number_value}
use Rattle.aide_fields.specs.Attributes.{same_value, sides_between, type_value}
use Rattle.aide_entry.specs.Entry.{attributes_of, is_on, path_of, value_in}
use Rattle.aide_entry.specs.Fields.{column_named, columns_of}
use Rattle.aide_entry.specs.Lines.{kind_of, kind_of_field}
use Rattle.aide_fields.specs.Numbers.{bits_of, mode_of, natural_of, number_of}
use Rattle.aide_fields.specs.Path.{path_cmp}
use Rattle.aide_fields.specs.Text.{fields, lines}
use Rattle.aide_fields.specs.Values.{link_of}
use Rattle.aide_entry.specs.declared.column.Column.TheVariants.{Bits, Name, Of, Skipped}
use Rattle.aide_entry.specs.declared.line.LineKind.TheVariants.{Blank, End}
use Rattle.aide_line_text.specs.declared.account.Account.TheVariants.{LeftOut, Old, Trusted}
use Rattle.aide_merge.specs.Changed.{differ_by}
use Rattle.aide_line_run.specs.Listed.{account_by}
use Rattle.aide_line_laws.specs.OverMaps.{IsAbout, IsAccount, IsFirstLine, StayedAsOld, differ_beyond}
use Rattle.aide_json.specs.Number.{count as json_count}
use Rattle.aide_line_laws.specs.Field.{json_of}
use Rattle.aide_line_laws.specs.Reading.{SaysAccount}
use Rattle.aide_line_laws.proofs.MapLaws.{account_by_is_account}

-- ---- the entries of the examples

-- the number that these four digits write in octal
abbrev pub octal : ℕ → ℕ
octal digits = digits / 1000 * 512 + digits / 100 % 10 * 64 + digits / 10 % 10 * 8 + digits % 10

-- an entry has these values, and no others
abbrev pub entry : List (Attr × Value) → Attributes
entry [] a = None
entry (one ∷ more) a = if is_attr one.0 a then Some one.1 else entry more a

-- what belongs to root, of this type, with its permissions in octal, and has these values too
abbrev pub of_root : FileType → (mode : ℕ) → List (Attr × Value) → Attributes
of_root kind mode more =
    entry ((Ftype, type_value kind) ∷ (Perm, mode_value (octal mode)) ∷ (Uid, number_value (pos 0))
    ∷ (Gid, number_value (pos 0)) ∷ more)

-- a regular file: its permissions, the time of its last change, and a digest of its content
abbrev pub file : (mode time : ℕ) → (digest : Attr) → (content : ℕ) → Attributes
file mode time digest content =
    of_root File mode ((Mtime, number_value (pos time)) ∷ (digest, digest_value (content ∷ [])) ∷ [])

-- a directory: its permissions, its size and its number of links
abbrev pub directory : (mode size links : ℕ) → Attributes
directory mode size links =
    of_root Directory mode ((Size, number_value (pos size)) ∷ (Linkcount, number_value (pos links)) ∷ [])

-- a link to a target, if the database has one
abbrev pub link : Option (List ℕ) → Attributes
link target = of_root SymbolicLink 777 ((Lname, link_value target) ∷ [])

-- an entry without one of its attributes
abbrev pub without : Attr → Attributes → Attributes
without missing one a = if is_attr a missing then None else one a

-- a database with two entries; what follows its end line is no entry
abbrev pub two_entries : List ℕ
two_entries = codes "@@begin_db\n@@db_spec name attr size\n# x\n/a 32 5\n/b%20c 0 5\n@@end_db\n/d 32 5\n"

pub small : (n : ℕ) → n < 512 → n < 2 ^ count
unfolding count
small n h = omega (arith, h)

unfoldable pub bits : (n : ℕ) → n < 512 → AttrSet
bits n h = record { bits = record { 0 = n }; known = small n h }

-- the options that ignore a change of the attribute with index 8, which is the time of the last change
unfoldable pub but_for_times : Ignore
unfolding bits
but_for_times = record { added = bits 0 (lit< tt); removed = bits 0 (lit< tt); changed = bits 256 (lit< tt); force = bits 0 (lit< tt) }

-- ---- when two entries agree

pub apart : {P : Type 0} (test : Bool) → (P → test ≡ true) → test ≡ false → ¬ P
apart true from e h = cc
apart false from e h = let f = from h in cc

differs : (x y : Attributes) → agree x y ≡ false → ¬ (Agrees x y)
differs x y e = apart (agree x y) (agree_from_meaning x y) e

pub Agrees_example_time : Agrees (file 755 1 Sha256 7) (file 755 2 Sha256 7)
unfolding agree row_of row
Agrees_example_time = meaning_of_agree (file 755 1 Sha256 7) (file 755 2 Sha256 7) refl

pub Agrees_example_user_id : ¬ (Agrees (file 755 1 Sha256 7) (file 4755 1 Sha256 7))
unfolding agree row_of row
Agrees_example_user_id = differs (file 755 1 Sha256 7) (file 4755 1 Sha256 7) refl

pub Agrees_example_owner : ¬ (Agrees (without Uid (file 755 1 Sha256 7)) (without Uid (file 755 2 Sha256 7)))
unfolding agree row_of row
Agrees_example_owner = differs (without Uid (file 755 1 Sha256 7)) (without Uid (file 755 2 Sha256 7)) refl

pub Agrees_example_directory : Agrees (directory 755 60 2) (directory 755 80 2) × ¬ (Agrees (directory 755 60 2) (directory 755 60 3))
unfolding agree row_of row
Agrees_example_directory =
    (meaning_of_agree (directory 755 60 2) (directory 755 80 2) refl, differs (directory 755 60 2) (directory 755 60 3) refl)

no_md5 : (x y : Attributes) → ((a : Attr) → is_strong a ≡ true → x a ≡ None) → ¬ (SharesDigest x y)
no_md5 x y none h = let f = sym (none h.attribute h.strong) ∙ h.in_first in cc

pub SharesDigest_example : SharesDigest (file 644 1 Sha256 7) (file 644 2 Sha256 7)
    × ¬ (SharesDigest (file 644 1 Md5 7) (file 644 1 Md5 7))
unfolding row_of row
SharesDigest_example = (
  record { attribute = Sha256; value = digest_value (7 ∷ []); strong = refl; in_first = refl; in_second = refl },
  no_md5 (file 644 1 Md5 7) (file 644 1 Md5 7) weak,
)
  where
    weak : (a : Attr) → is_strong a ≡ true → file 644 1 Md5 7 a ≡ None
    weak Ftype e = cc
    weak _ e = cc

pub HasTarget_example : HasTarget (link (Some (codes "dash"))) × ¬ (HasTarget (link None))
unfolding row_of row
HasTarget_example = (record { target = codes "dash"; is = refl }, λ h. let e = h.is in cc)

pub SaysRights_example : SaysRights (file 644 1 Sha256 7) × ¬ (SaysRights (without Perm (file 644 1 Sha256 7)))
unfolding row_of row
SaysRights_example = (record { mode = refl; owner = refl; group = refl }, λ h. let e = h.mode in cc)

pub is_device_example : (is_device Block ≡ true) × (is_device Fifo ≡ false)
is_device_example = (refl, refl)

pub is_own_example : filter (is_own false) all_attrs ≡ Bcount ∷ Atime ∷ Mtime ∷ Ctime ∷ Inode ∷ []
unfolding row_of row
is_own_example = refl

pub is_own_example_directory : filter (is_own true) all_attrs ≡ Size ∷ Bcount ∷ Atime ∷ Mtime ∷ Ctime ∷ Inode ∷ []
unfolding row_of row
is_own_example_directory = refl

pub is_digest_example : (is_digest Md5 ≡ true) × (is_digest Size ≡ false)
unfolding row_of row
is_digest_example = (refl, refl)

pub is_right_example : filter is_right all_attrs
    ≡ Ftype ∷ Perm ∷ Uid ∷ Gid ∷ Acl ∷ Xattrs ∷ Selinux ∷ E2fsattrs ∷ Caps ∷ []
unfolding row_of row
is_right_example = refl

pub is_content_example : (is_content false Size ≡ true) × (is_content true Size ≡ false) × (is_content false Md5 ≡ true)
unfolding row_of row
is_content_example = (refl, refl, refl)

pub is_strong_example : filter is_strong all_attrs
    ≡ Sha256 ∷ Sha512 ∷ Whirlpool ∷ Stribog256 ∷ Stribog512 ∷ Sha512Of256 ∷ Sha3Of256 ∷ Sha3Of512 ∷ []
unfolding row_of row
is_strong_example = refl

-- ---- when two entries differ

pub is_different_example : (is_different (Some (mode_value 420)) (Some (mode_value 384)) ≡ true)
    × (is_different None (Some (mode_value 420)) ≡ false)
is_different_example = (refl, refl)

pub same_value_example : same_value (number_value (pos 420)) (mode_value 420) ≡ false
same_value_example = refl

pub is_changed_example : is_changed (sides_between (file 644 1 Md5 7) (file 600 1 Sha256 7)) Perm ≡ true
unfolding row_of row
is_changed_example = refl

pub is_added_example : is_added (sides_between (file 644 1 Md5 7) (file 600 1 Sha256 7)) Sha256 ≡ true
unfolding row_of row
is_added_example = refl

pub is_removed_example : is_removed (sides_between (file 644 1 Md5 7) (file 600 1 Sha256 7)) Md5 ≡ true
unfolding row_of row
is_removed_example = refl

pub has_example : (has but_for_times.changed Mtime ≡ true) × (has but_for_times.changed Size ≡ false)
unfolding but_for_times bits has row_of row
has_example = (refl, refl)

pub is_reported_example : is_reported (sides_between (file 644 1 Sha256 7) (file 644 2 Sha256 7)) but_for_times Mtime ≡ false
unfolding but_for_times bits has row_of row
is_reported_example = refl

-- ---- what a text says

pub lines_example : lines (codes "a\nb") ≡ codes "a" ∷ codes "b" ∷ []
unfolding lines
lines_example = refl

pub fields_example : fields (codes " /a  32 ") ≡ codes "/a" ∷ codes "32" ∷ []
unfolding fields
fields_example = refl

pub kind_of_example : (kind_of (codes "# x") ≡ Blank) × (kind_of (codes "@@end_db") ≡ End)
unfolding kind_of kind_of_field fields
kind_of_example = (refl, refl)

pub columns_of_example : columns_of (codes "@@db_spec name attr perm foo") ≡ Name ∷ Bits ∷ Of Ftype ∷ Skipped ∷ []
unfolding fields column_named attr_of_column row_of row
columns_of_example = refl

pub attr_of_column_example : attr_of_column (codes "capabilities") ≡ Some Caps
unfolding attr_of_column row_of row
attr_of_column_example = refl

pub holder_of_example : holder_of Perm ≡ Ftype
unfolding row_of row
holder_of_example = refl

pub path_of_example : path_of (Name ∷ []) (codes "/b%20c") ≡ codes "/b c"
unfolding fields percent_decode
path_of_example = refl

pub is_on_example : (is_on (Some 5) (Some (codes "32")) ≡ true) × (is_on (Some 5) (Some (codes "0")) ≡ false)
unfolding bits_of number_of natural_of
is_on_example = (refl, refl)

pub attributes_of_example : attributes_of (Name ∷ Bits ∷ Of Size ∷ []) (codes "/a 32 5") Size ≡ Some (number_value (pos 5))
unfolding fields bits_of number_of natural_of row_of row
attributes_of_example = refl

pub value_in_example : value_in Mode (Some (codes "104755")) ≡ Some (mode_value (octal 4755))
unfolding mode_of
value_in_example = refl

pub value_in_example_type : (value_in Kind (Some (codes "104755")) ≡ Some (type_value File)) × (value_in Opaque (Some (codes "0")) ≡ None)
unfolding mode_of
value_in_example_type = (refl, refl)

pub value_in_example_link : value_in Link (Some (codes "0")) ≡ Some (link_value None)
unfolding link_of
value_in_example_link = refl

pub path_cmp_example : path_cmp (codes "/a/b") (codes "/a-b") ≡ Less
unfolding path_cmp
path_cmp_example = refl

-- ---- what accounts for a change

stayed : (x y : Attributes) → agree x y ≡ true → StayedAsOld (Some x, Some y)
stayed x y e = record { old = x; new = y; both = refl; agrees = meaning_of_agree x y e }

account : (found there : Pair) → IsAccount found there (λ line. line ≡ 3) (account_by (same_as found there) (Some 3))
account found there = account_by_is_account found there (Some 3) (λ line. line ≡ 3) (λ n e. cc) (λ n e. ap Some (sym e))

pub StayedAsOld_example : StayedAsOld (Some (file 644 1 Sha256 7), Some (file 644 2 Sha256 7))
    × ¬ (StayedAsOld (None, Some (file 644 1 Sha256 7)))
unfolding agree row_of row
StayedAsOld_example =
    (stayed (file 644 1 Sha256 7) (file 644 2 Sha256 7) refl, λ h. let e = ap (λ pair. pair.0) h.both in cc)

pub HappenedThere_example : HappenedThere (None, Some (file 755 1 Sha256 7)) (None, Some (file 755 2 Sha256 7))
unfolding agree row_of row
HappenedThere_example = meaning_of_agree (file 755 1 Sha256 7) (file 755 2 Sha256 7) refl

pub HappenedThere_example_still :
    ¬ (HappenedThere (None, Some (file 755 1 Sha256 7)) (Some (file 755 2 Sha256 7), Some (file 755 2 Sha256 7)))
HappenedThere_example_still h = h

-- A host was one version behind: its content was another one than there before.
pub HappenedThere_example_late :
    HappenedThere (Some (file 755 1 Sha256 3), Some (file 755 2 Sha256 7)) (Some (file 755 1 Sha256 5), Some (file 755 2 Sha256 7))
unfolding agree changed_too row_of row
HappenedThere_example_late =
    happened_means (Some (file 755 1 Sha256 3), Some (file 755 2 Sha256 7))
    (Some (file 755 1 Sha256 5), Some (file 755 2 Sha256 7)) refl

-- The bit that runs it as its user comes here, and stood there, where the content changed.
pub HappenedThere_example_user_id :
    ¬ (HappenedThere (Some (file 755 1 Sha256 5), Some (file 4755 2 Sha256 7))
    (Some (file 4755 1 Sha256 5), Some (file 4755 2 Sha256 7)))
unfolding agree changed_too row_of row
HappenedThere_example_user_id =
    apart (is_as_trusted (Some (file 755 1 Sha256 5), Some (file 4755 2 Sha256 7))
    (Some (file 4755 1 Sha256 5), Some (file 4755 2 Sha256 7)))
    (happened_from (Some (file 755 1 Sha256 5), Some (file 4755 2 Sha256 7))
    (Some (file 4755 1 Sha256 5), Some (file 4755 2 Sha256 7))) refl

pub KeepsRights_example : ¬ (KeepsRights (file 755 1 Sha256 7) (file 4755 1 Sha256 7))
unfolding row_of row
KeepsRights_example =
    apart (keeps_rights (file 755 1 Sha256 7) (file 4755 1 Sha256 7)) (kept_from (file 755 1 Sha256 7) (file 4755 1 Sha256 7)) refl

pub SameContent_example : SameContent File (file 644 1 Sha256 7) (file 600 2 Sha256 7)
    × ¬ (SameContent File (file 644 1 Md5 7) (file 644 1 Md5 7))
unfolding row_of row
SameContent_example = (
  same_means File (file 644 1 Sha256 7) (file 600 2 Sha256 7) refl,
  λ h. SharesDigest_example.1 (h.shared refl),
)

pub OtherContent_example : OtherContent File (file 644 1 Sha256 5) (file 644 1 Sha256 7)
    × ¬ (OtherContent File (file 644 1 Md5 5) (file 644 1 Sha256 7))
unfolding row_of row
OtherContent_example = (
  other_means File (file 644 1 Sha256 5) (file 644 1 Sha256 7) refl,
  apart (has_other_content File (sides_between (file 644 1 Md5 5) (file 644 1 Sha256 7))
      (have_targets (file 644 1 Md5 5) (file 644 1 Sha256 7)))
      (other_from File (file 644 1 Md5 5) (file 644 1 Sha256 7)) refl,
)

pub DiffersAt_example : DiffersAt Perm (file 644 1 Sha256 7) (file 600 1 Sha256 7)
    × ¬ (DiffersAt Md5 (file 644 1 Md5 7) (file 644 1 Sha256 7))
unfolding row_of row
DiffersAt_example = (
  changed_means (file 644 1 Sha256 7) (file 600 1 Sha256 7) Perm refl,
  λ h. let e = h.in_second in cc,
)

-- Line 3 of a list leaves out each of these changes.
pub IsAccount_example_old : IsAccount (Some (file 644 1 Sha256 7), Some (file 644 2 Sha256 7)) (None, None) (λ line. line ≡ 3) (Some Old)
unfolding same_as agree row_of row
IsAccount_example_old = account (Some (file 644 1 Sha256 7), Some (file 644 2 Sha256 7)) (None, None)

pub IsAccount_example_trusted : IsAccount (None, Some (file 644 1 Sha256 7)) (None, Some (file 644 2 Sha256 7))
    (λ line. line ≡ 3) (Some Trusted)
unfolding same_as agree row_of row
IsAccount_example_trusted = account (None, Some (file 644 1 Sha256 7)) (None, Some (file 644 2 Sha256 7))

pub IsAccount_example_line : IsAccount (None, Some (file 644 1 Sha256 7)) (None, None) (λ line. line ≡ 3) (Some (LeftOut 3))
unfolding same_as agree row_of row
IsAccount_example_line = account (None, Some (file 644 1 Sha256 7)) (None, None)

pub differ_by_example : differ_by but_for_times (file 644 1 Sha256 7) (file 600 2 Sha256 7) ≡ true
unfolding differ_by but_for_times bits has row_of row
differ_by_example = refl

pub differ_beyond_example : differ_beyond but_for_times (Some (file 644 1 Sha256 7), Some (file 644 2 Sha256 7)) ≡ false
unfolding differ_by but_for_times bits has row_of row
differ_beyond_example = refl

pub differ_beyond_example_added : differ_beyond but_for_times (None, Some (file 644 1 Sha256 7)) ≡ true
differ_beyond_example_added = refl

-- ---- lines

pub IsFirstLine_example : IsFirstLine ((codes "format", json_of (json_count 4)) ∷ [])
IsFirstLine_example = refl

pub IsAbout_example : IsAbout (codes "/a") ((codes "path", string (codes "/a")) ∷ [])
IsAbout_example = refl

pub SaysAccount_example : SaysAccount (Some Trusted) ((codes "same_as", string (codes "trusted")) ∷ [])
SaysAccount_example = record { same_as = refl; left_out = refl }

pub entries_of_example : map (λ one. one.0) (entries_of two_entries) ≡ codes "/a" ∷ codes "/b c" ∷ []
unfolding lines fields kind_of kind_of_field column_named attr_of_column row_of row percent_decode
entries_of_example = refl
