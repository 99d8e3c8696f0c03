-- Laws of agreement, and of what accounts for a change.
use Rattle.std.proofs.Common.{◌≡◌, ◌≢◌, ◌∙◌, ℕ, Bool, true, false, refl, sym, ap, inl, inr}
use Rattle.std.specs.Prelude.{◌||◌, ◌&&◌, not, Option, Some, None, IsSome, if◌then◌else◌, is_some}
use Rattle.std.specs.List.{list_any}
use Rattle.std.proofs.lemmas.Bool.{and_from, and_parts, not-true, not_from_false}
use Rattle.aide_attr.specs.Attr.{all_attrs}
use Rattle.aide_attr.specs.Difference.{Sides, is_added, is_affected, is_changed, is_removed, is_reported, is_same}
use Rattle.aide_attr.specs.Set.{has}
use Rattle.aide_attr.specs.declared.attr.Attr.{Attr}
use Rattle.aide_attr.specs.declared.attr.Attr.TheVariants.{Ftype, Gid, Lname, Perm, Uid}
use Rattle.aide_attr.specs.declared.delta.Ignore.{Ignore}
use Rattle.aide_attr.specs.declared.file_type.FileType.{FileType}
use Rattle.aide_attr.specs.declared.file_type.FileType.TheVariants as kinds
use Rattle.aide_attr.proofs.WalkLemmas.{bool_cases}
use Rattle.aide_fields.specs.Attributes.{Attributes, Value, sides_between, type_in}
use Rattle.aide_agreement.specs.Account.{IsUnaccounted, Pair, came_too, is_as_old, is_as_trusted, same_as}
use Rattle.aide_agreement.specs.Agreement.{agree, are_same_by, has_target, have_targets, is_shared, says_rights, shares_content, strays}
use Rattle.aide_agreement.specs.Meaning.{Agrees, HasTarget, HaveSameDigests, SaysContent, SaysRights, SharesDigest}
use Rattle.aide_agreement.specs.Own.{is_device, is_digest, is_directory, is_own, is_strong}
use Rattle.aide_agreement.specs.declared.account.SameAs.{SameAs}
use Rattle.aide_agreement.specs.declared.account.SameAs.TheVariants.{Old, Trusted}
use Rattle.aide_agreement.proofs.ListLemmas.{found_any, none_at, none_of, some_at}
use Rattle.aide_agreement.proofs.SetLemmas.{digest_not_own, is_needed, needed_kept, strong_is_digest, type_not_own, type_no_digest}
use Rattle.aide_agreement.proofs.SideLemmas.{alike_at, alike_no_stray, digest_at, digest_no_stray, own_no_stray}
use Rattle.aide_agreement.proofs.SideLemmas.{same_from, same_of, shared_at, target_at, target_from, unaffected_at}

-- ---- what it means that two entries agree

-- entries of this type have the same content and do not stray from each other
abbrev are_same_if : Option FileType → (x y : Attributes) → Bool
are_same_if kind x y = are_same_by kind (sides_between x y) (have_targets x y)

no_stray : (x y : Attributes) (kind : FileType) → are_same_if (Some kind) x y ≡ true
    → (a : Attr) → strays (is_directory kind) (sides_between x y) a ≡ false
no_stray x y kind e =
    none_at (strays (is_directory kind) (sides_between x y))
    (not-true _ (and_parts (shares_content kind (sides_between x y) (have_targets x y)) _ e).1)

alike_by : (x y : Attributes) (kind : FileType) → are_same_if (Some kind) x y ≡ true
    → (a : Attr) → is_own (is_directory kind) a ≡ false → is_digest a ≡ false → x a ≡ y a
alike_by x y kind e a own digest =
    alike_at (x a) (y a) (is_digest a) (is_own (is_directory kind) a) own digest (no_stray x y kind e a)

digests_by : (x y : Attributes) (kind : FileType) → are_same_if (Some kind) x y ≡ true
    → (a : Attr) → is_digest a ≡ true → (u v : Value) → x a ≡ Some u → y a ≡ Some v → u ≡ v
digests_by x y kind e a digest u v is_u is_v =
    digest_at (x a) (y a) u v (is_digest a) (is_own (is_directory kind) a) is_u is_v
    (digest_not_own (is_directory kind) a digest) (no_stray x y kind e a)

shared_by : (x y : Attributes) → list_any (is_shared (sides_between x y)) all_attrs ≡ true → SharesDigest x y
shared_by x y e =
    let found = found_any (is_shared (sides_between x y)) all_attrs e in
    let same = (and_parts (is_same (sides_between x y) found.0) (is_strong found.0) found.1).0 in
    let shared = shared_at (x found.0) (y found.0) same in
    record {
      attribute = found.0;
      value = shared.0;
      strong = (and_parts (is_same (sides_between x y) found.0) (is_strong found.0) found.1).1;
      in_first = shared.1;
      in_second = shared.2;
    }

pub targets_of : (x y : Attributes) → have_targets x y ≡ true → HasTarget x × HasTarget y
targets_of x y both = (
  target_at x (and_parts (has_target (x Lname)) (has_target (y Lname)) both).0,
  target_at y (and_parts (has_target (x Lname)) (has_target (y Lname)) both).1,
)

pub targets_from : (x y : Attributes) → HasTarget x × HasTarget y → have_targets x y ≡ true
targets_from x y h = and_from (has_target (x Lname)) (has_target (y Lname)) (target_from x h.0) (target_from y h.1)

-- files of the same content share a digest, and links have targets
pub files_share : (x y : Attributes) (kind : FileType) → shares_content kind (sides_between x y) (have_targets x y) ≡ true
    → kind ≡ kinds.File → SharesDigest x y
files_share x y kind content is =
    shared_by x y (ap (λ k. shares_content k (sides_between x y) (have_targets x y)) (sym is) ∙ content)

pub links_have : (x y : Attributes) (kind : FileType) → shares_content kind (sides_between x y) (have_targets x y) ≡ true
    → kind ≡ kinds.Link → HasTarget x × HasTarget y
links_have x y kind content is =
    targets_of x y (ap (λ k. shares_content k (sides_between x y) (have_targets x y)) (sym is) ∙ content)

no_device_by : (kind : FileType) (s : Sides) (targets : Bool) → shares_content kind s targets ≡ true → is_device kind ≡ false
no_device_by kinds.Char s targets e = cc
no_device_by kinds.Block s targets e = cc
no_device_by _ s targets e = refl

known_by : (kind : FileType) (s : Sides) (targets : Bool) → shares_content kind s targets ≡ true → (bits : ℕ)
    → kind ≢ kinds.Other bits
known_by kind s targets e bits is = let f = ap (λ k. shares_content k s targets) (sym is) ∙ e in cc

pub says_by : (x : Attributes) → says_rights (λ a. is_some (x a)) ≡ true → SaysRights x
says_by x e =
    let parts = and_parts (is_some (x Perm)) (is_some (x Uid) && is_some (x Gid)) e in
    let others = and_parts (is_some (x Uid)) (is_some (x Gid)) parts.1 in
    record { mode = parts.0; owner = others.0; group = others.1 }

pub says_from : (x : Attributes) → SaysRights x → says_rights (λ a. is_some (x a)) ≡ true
says_from x h =
    and_from (is_some (x Perm)) (is_some (x Uid) && is_some (x Gid)) h.mode
    (and_from (is_some (x Uid)) (is_some (x Gid)) h.owner h.group)

-- what has the same permissions, owner and group says who may do what, as the other does
pub says_too : (x y : Attributes) → SaysRights x → x Perm ≡ y Perm → x Uid ≡ y Uid → x Gid ≡ y Gid → SaysRights y
says_too x y h mode owner group = record {
  mode = ap is_some (sym mode) ∙ h.mode;
  owner = ap is_some (sym owner) ∙ h.owner;
  group = ap is_some (sym group) ∙ h.group;
}

agrees_by : (x y : Attributes) (o : Option FileType) → type_in (x Ftype) ≡ o → SaysRights x → are_same_if o x y ≡ true
    → Agrees x y
agrees_by x y None is says e = cc
agrees_by x y (Some kind) is says e =
    let content = (and_parts (shares_content kind (sides_between x y) (have_targets x y)) _ e).0 in
    let kept = λ (a : Attr) (needed : is_needed a ≡ true). let no = needed_kept (is_directory kind) a needed in
    alike_by x y kind e a no.0 no.1 in
    record {
      kind = kind;
      of_first = is;
      of_second = sym (ap type_in (alike_by x y kind e Ftype (type_not_own (is_directory kind)) type_no_digest)) ∙ is;
      known = known_by kind (sides_between x y) (have_targets x y) content;
      no_device = no_device_by kind (sides_between x y) (have_targets x y) content;
      rights = (says, says_too x y says (kept Perm refl) (kept Uid refl) (kept Gid refl));
      alike = alike_by x y kind e;
      digests = digests_by x y kind e;
      shared = files_share x y kind content;
      target = links_have x y kind content;
    }

-- Entries that agree say who may do what, and have one type of Linux, not that of devices, the same values but for what each machine has of
-- its own and digests that only one of them has, and the same content.
pub meaning_of_agree : (x y : Attributes) → agree x y ≡ true → Agrees x y
unfolding agree
meaning_of_agree x y e =
    let parts = and_parts (says_rights (λ a. is_some (x a))) (are_same_if (type_in (x Ftype)) x y) e in
    agrees_by x y (type_in (x Ftype)) refl (says_by x parts.0) parts.1

pub content_from : (x y : Attributes) (kind : FileType) → ((bits : ℕ) → kind ≢ kinds.Other bits) → is_device kind ≡ false
    → (kind ≡ kinds.File → SharesDigest x y)
    → (kind ≡ kinds.Link → HasTarget x × HasTarget y)
    → shares_content kind (sides_between x y) (have_targets x y) ≡ true
content_from x y kinds.File known no_device shared target =
    let digest = shared refl in
    some_at (is_shared (sides_between x y)) digest.attribute
    ((λ i. same_of (digest.in_first i) (digest.in_second i) && is_strong digest.attribute)
    ∙ ap (λ b. b && is_strong digest.attribute) (same_from digest.value) ∙ digest.strong)
content_from x y kinds.Link known no_device shared target =
    let targets = target refl in rw (target_from x targets.0, target_from y targets.1) refl
content_from x y kinds.Char known no_device shared target = cc
content_from x y kinds.Block known no_device shared target = cc
content_from x y (kinds.Other bits) known no_device shared target = absurd (known bits refl)
content_from x y _ known no_device shared target = refl

stays : (x y : Attributes) (h : Agrees x y) (a : Attr) → strays (is_directory h.kind) (sides_between x y) a ≡ false
stays x y h a = elim (bool_cases (is_own (is_directory h.kind) a)) [
  | inl own ↦ own_no_stray (x a) (y a) (is_digest a) (is_own (is_directory h.kind) a) own
  | inr own ↦ elim (bool_cases (is_digest a)) [
    | inl digest ↦ digest_no_stray (x a) (y a) (is_digest a) (is_own (is_directory h.kind) a) digest (h.digests a digest)
    | inr digest ↦ alike_no_stray (x a) (y a) (is_digest a) (is_own (is_directory h.kind) a) (h.alike a own digest)
  ]
]

same_by : (x y : Attributes) (h : Agrees x y) → are_same_if (Some h.kind) x y ≡ true
same_by x y h =
    and_from (shares_content h.kind (sides_between x y) (have_targets x y)) _
    (content_from x y h.kind h.known h.no_device h.shared h.target)
    (not_from_false _ (none_of (strays (is_directory h.kind) (sides_between x y)) (stays x y h) all_attrs))

-- And entries of which this holds agree.
pub agree_from_meaning : (x y : Attributes) → Agrees x y → agree x y ≡ true
unfolding agree
agree_from_meaning x y h =
    and_from (says_rights (λ a. is_some (x a))) _ (says_from x h.rights.0)
    (ap (λ o. are_same_if o x y) h.of_first ∙ same_by x y h)

-- ---- agreement is an equivalence, as far as digests tell

same_kind : (x y : FileType) → Some x ≡ Some y → x ≡ y
same_kind x y e = cc

-- An entry that says who may do what, and what its content is, agrees with itself.
pub agree_itself : (x : Attributes) → SaysRights x → SaysContent x → agree x x ≡ true
agree_itself x says h = agree_from_meaning x x (record {
  kind = h.kind;
  of_first = h.of_entry;
  of_second = h.of_entry;
  known = h.known;
  no_device = h.no_device;
  rights = (says, says);
  alike = λ a own digest. refl;
  digests = λ a digest u v is_u is_v. same_value_in (x a) u v is_u is_v;
  shared = h.shared;
  target = λ is. (h.target is, h.target is);
})
  where
    same_value_in : (o : Option Value) (u v : Value) → o ≡ Some u → o ≡ Some v → u ≡ v
    same_value_in o u v is_u is_v = let e = sym is_u ∙ is_v in cc

turned : (x y : Attributes) → Agrees x y → Agrees y x
turned x y h = record {
  kind = h.kind;
  of_first = h.of_second;
  of_second = h.of_first;
  known = h.known;
  no_device = h.no_device;
  rights = (h.rights.1, h.rights.0);
  alike = λ a own digest. sym (h.alike a own digest);
  digests = λ a digest u v is_u is_v. sym (h.digests a digest v u is_v is_u);
  shared = λ is. let d = h.shared is in record {
    attribute = d.attribute;
    value = d.value;
    strong = d.strong;
    in_first = d.in_second;
    in_second = d.in_first;
  };
  target = λ is. let t = h.target is in (t.1, t.0);
}

-- Which of two entries is the first one has no part in whether they agree.
pub agree_turned : (x y : Attributes) → agree x y ≡ true → agree y x ≡ true
agree_turned x y e = agree_from_meaning y x (turned x y (meaning_of_agree x y e))

there : (o : Option Value) (v : Value) (p : Option Value) → o ≡ Some v → is_some o ≡ is_some p → (w : Value) × (p ≡ Some w)
there o v None is e = let f = ap is_some (sym is) ∙ e in cc
there o v (Some w) is e = (w, refl)

across : (x y z : Attributes) → Agrees x y → Agrees y z → HaveSameDigests y z → Agrees x z
across x y z g h same =
    let kind : g.kind ≡ h.kind = same_kind g.kind h.kind (sym g.of_second ∙ h.of_first) in
    let owned = λ (a : Attr) (own : is_own (is_directory g.kind) a ≡ false).
    ap (λ k. is_own (is_directory k) a) (sym kind) ∙ own in
    record {
      kind = g.kind;
      of_first = g.of_first;
      of_second = h.of_second ∙ ap Some (sym kind);
      known = g.known;
      no_device = g.no_device;
      rights = (g.rights.0, h.rights.1);
      alike = λ a own digest. g.alike a own digest ∙ h.alike a (owned a own) digest;
      digests = λ a digest u w is_u is_w.
          let middle = there (z a) w (y a) is_w (sym (same a digest)) in
          g.digests a digest u middle.0 is_u middle.1 ∙ h.digests a digest middle.0 w middle.1 is_w;
      shared = λ is. let d = g.shared is in
          let digest = strong_is_digest d.attribute d.strong in
          let last = there (y d.attribute) d.value (z d.attribute) d.in_second (same d.attribute digest) in
          record {
            attribute = d.attribute;
            value = d.value;
            strong = d.strong;
            in_first = d.in_first;
            in_second = last.1 ∙ ap Some (sym (h.digests d.attribute digest d.value last.0 d.in_second last.1));
          };
      target = λ is. ((g.target is).0, (h.target (sym kind ∙ is)).1);
    }

-- An entry that agrees with one that agrees with a third agrees with the third, if the latter two have the same digests.
pub agree_across : (x y z : Attributes) → agree x y ≡ true → agree y z ≡ true → HaveSameDigests y z → agree x z ≡ true
agree_across x y z e f same =
    agree_from_meaning x z (across x y z (meaning_of_agree x y e) (meaning_of_agree y z f) same)

-- ---- what accounts for a change

by_tests : (old trusted : Bool) (answer : Option SameAs)
    → answer ≡ (if old then Some Old else (if trusted then Some Trusted else None)) → answer ≡ Some Old → old ≡ true
by_tests true trusted answer is e = refl
by_tests false true answer is e = let f = sym is ∙ e in cc
by_tests false false answer is e = let f = sym is ∙ e in cc

by_trusted : (old trusted : Bool) (answer : Option SameAs)
    → answer ≡ (if old then Some Old else (if trusted then Some Trusted else None)) → answer ≡ Some Trusted → trusted ≡ true
by_trusted true trusted answer is e = let f = sym is ∙ e in cc
by_trusted false true answer is e = refl
by_trusted false false answer is e = let f = sym is ∙ e in cc

pub old_agrees : (found trusted : Pair) → same_as found trusted ≡ Some Old → is_as_old found ≡ true
unfolding same_as
old_agrees found trusted e = by_tests (is_as_old found) (is_as_trusted found trusted) (same_as found trusted) refl e

pub trusted_has : (found trusted : Pair) → same_as found trusted ≡ Some Trusted → is_as_trusted found trusted ≡ true
unfolding same_as
trusted_has found trusted e = by_trusted (is_as_old found) (is_as_trusted found trusted) (same_as found trusted) refl e

reported_stays : (c a r i j k digest own : Bool)
    → ((c || ((a || r) && not digest)) && not own) ≡ false → own ≡ false → ((c && i) || (a && j) || (r && k)) ≡ true
    → (digest ≡ true) × (c ≡ false)
reported_stays true a r i j k digest false e own is = cc
reported_stays false a r i j k true false e own is = (refl, refl)
reported_stays false true r i j k false false e own is = cc
reported_stays false false true i j k false false e own is = cc
reported_stays false false false i j k false false e own is = cc
reported_stays _ a r i j k digest true e own is = cc

-- Where the old entry accounts for a change, no attribute is reported, whatever the options ignore, but what each machine
-- has of its own, and digests that only one of the entries has.
pub old_reports_own : (old new : Attributes) (trusted : Pair) → same_as (Some old, Some new) trusted ≡ Some Old
    → (kind : FileType) × (type_in (new Ftype) ≡ Some kind)
    × ((i : Ignore) (a : Attr) → is_reported (sides_between old new) i a ≡ true → is_own (is_directory kind) a ≡ false
    → (is_digest a ≡ true) × (is_changed (sides_between old new) a ≡ false))
old_reports_own old new trusted e =
    let h = meaning_of_agree old new (old_agrees (Some old, Some new) trusted e) in (
      h.kind,
      h.of_second,
      λ i a reported own.
          let s : Sides = sides_between old new in
          reported_stays (is_changed s a) (is_added s a) (is_removed s a) (not (has i.changed a)) (not (has i.added a))
          (not (has i.removed a)) (is_digest a) (is_own (is_directory h.kind) a) (stays old new h a) own reported,
    )

-- Where a trusted machine accounts for an added or a changed entry, it has an entry there that agrees with the new one.
pub trusted_here : (old : Option Attributes) (new : Attributes) (trusted : Pair)
    → same_as (old, Some new) trusted ≡ Some Trusted → (t : Attributes) × (trusted.1 ≡ Some t) × Agrees new t
trusted_here old new (trusted_old, None) e = let f = trusted_has (old, Some new) (trusted_old, None) e in cc
trusted_here old new (trusted_old, Some t) e =
    (t, refl, meaning_of_agree new t (and_parts (agree new t) _ (trusted_has (old, Some new) (trusted_old, Some t) e)).0)

-- Where it accounts for a removed entry, it had one there that agrees with the old one, and has none any more.
pub trusted_gone : (old : Option Attributes) (trusted : Pair) → same_as (old, None) trusted ≡ Some Trusted
    → (o : Attributes) × (t : Attributes) × (old ≡ Some o) × (trusted ≡ (Some t, None)) × Agrees o t
trusted_gone old trusted e = gone old trusted (trusted_has (old, None) trusted e)
  where
    gone : (old : Option Attributes) (trusted : Pair) → is_as_trusted (old, None) trusted ≡ true
        → (o : Attributes) × (t : Attributes) × (old ≡ Some o) × (trusted ≡ (Some t, None)) × Agrees o t
    gone (Some o) (Some t, None) e = (o, t, refl, refl, meaning_of_agree o t e)
    gone (Some o) (None, None) e = cc
    gone (Some o) (None, Some u) e = cc
    gone (Some o) (Some t, Some u) e = cc
    gone None (None, None) e = cc
    gone None (Some t, None) e = cc
    gone None (None, Some u) e = cc
    gone None (Some t, Some u) e = cc

-- what agrees with another entry says what its content is
second_says : (x y : Attributes) → Agrees x y → SaysContent y
second_says x y h = record {
  kind = h.kind;
  of_entry = h.of_second;
  known = h.known;
  no_device = h.no_device;
  shared = λ is. let d = h.shared is in
      record { attribute = d.attribute; value = d.value; strong = d.strong; in_first = d.in_second; in_second = d.in_second };
  target = λ is. (h.target is).1;
}

-- an entry that differs in no attribute from one that says its content agrees with it
agree_unaffected : (x y : Attributes) → SaysRights y → SaysContent y → list_any (is_affected (sides_between x y)) all_attrs ≡ false
    → agree x y ≡ true
agree_unaffected x y rights says none =
    let same : x ≡ y = λ i a. unaffected_at (x a) (y a) (none_at (is_affected (sides_between x y)) none a) i in
    ap (λ z. agree z y) same ∙ agree_itself y rights says

alone_else : (old new : Attributes) → agree old new ≡ false → same_as (Some old, Some new) (None, None) ≡ None
unfolding same_as
alone_else old new e = rw e refl

unaccounted_of : (new old told : Attributes) → agree new told ≡ true → agree old told ≡ false
    → IsUnaccounted (Some old, Some told)
unaccounted_of new old told e f = record {
  changed = elim (bool_cases (list_any (is_affected (sides_between old told)) all_attrs)) [
    | inl is ↦ is
    | inr is ↦ let h = meaning_of_agree new told e in
        let g = sym (agree_unaffected old told h.rights.1 (second_says new told h) is) ∙ f in cc
  ];
  alone = alone_else old told f;
}

came : (old before : Option Attributes) (new there : Attributes) → agree new there ≡ true → came_too old new before there ≡ true
    → IsUnaccounted (before, Some there)
unfolding same_as
came None None new there e c = record { changed = refl; alone = refl }
came (Some old) None new there e c = record { changed = refl; alone = refl }
came (Some old) (Some before) new there e c =
    unaccounted_of new before there e (not-true (agree before there) (and_parts (not (agree before there)) _ c).0)
came None (Some before) new there e c = cc

unaccounted : (found trusted : Pair) → is_as_trusted found trusted ≡ true → IsUnaccounted trusted
unfolding same_as
unaccounted (old, Some new) (before, Some there) e =
    let parts = and_parts (agree new there) (came_too old new before there) e in
    came old before new there parts.0 parts.1
unaccounted (Some old, None) (Some before, None) e = record { changed = refl; alone = refl }
unaccounted (None, None) _ e = cc
unaccounted (Some old, None) (None, None) e = cc
unaccounted (Some old, None) (None, Some there) e = cc
unaccounted (Some old, None) (Some before, Some there) e = cc
unaccounted (old, Some new) (before, None) e = cc

-- At each path for which a trusted machine accounts, its own databases have one for which their old entry does not.
pub trusted_changed : (found trusted : Pair) → same_as found trusted ≡ Some Trusted → IsUnaccounted trusted
trusted_changed found trusted e = unaccounted found trusted (trusted_has found trusted e)

-- At a path that a trusted machine never had, nothing is accounted for by it.
pub none_without_path : (found : Pair) → same_as found (None, None) ≡ Some Trusted → ⊥
none_without_path found e = no_path found (trusted_has found (None, None) e)
  where
    no_path : (found : Pair) → is_as_trusted found (None, None) ≡ true → ⊥
    no_path (None, None) e = cc
    no_path (None, Some new) e = cc
    no_path (Some old, None) e = cc
    no_path (Some old, Some new) e = cc

-- Two states of a host for which one entry of a trusted machine accounts are the same but for what each machine has of
-- its own, and digests that one of them or the trusted entry lacks.
pub one_state : (x y t : Attributes) → agree x t ≡ true → agree y t ≡ true
    → (kind : FileType) × (type_in (x Ftype) ≡ Some kind) × (type_in (y Ftype) ≡ Some kind)
    × ((a : Attr) → is_own (is_directory kind) a ≡ false → is_digest a ≡ false → x a ≡ y a)
    × ((a : Attr) → is_digest a ≡ true → IsSome (t a) → (u v : Value) → x a ≡ Some u → y a ≡ Some v → u ≡ v)
one_state x y t e f =
    let g = meaning_of_agree x t e in
    let h = meaning_of_agree y t f in
    let kind : g.kind ≡ h.kind = same_kind g.kind h.kind (sym g.of_second ∙ h.of_second) in (
      g.kind,
      g.of_first,
      h.of_first ∙ ap Some (sym kind),
      (λ a own digest. g.alike a own digest
          ∙ sym (h.alike a (ap (λ k. is_own (is_directory k) a) (sym kind) ∙ own) digest)),
      λ a digest has u v is_u is_v. let w = some_value (t a) has in
          g.digests a digest u w.0 is_u w.1 ∙ sym (h.digests a digest v w.0 is_v w.1),
    )
  where
    some_value : (o : Option Value) → IsSome o → (w : Value) × (o ≡ Some w)
    some_value (Some w) has = (w, refl)
    some_value None has = cc
