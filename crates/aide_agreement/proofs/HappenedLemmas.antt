-- The tests of what happened on a trusted machine, and the facts.
use Rattle.std.proofs.Common.{◌≡◌, ◌≢◌, ◌∙◌, ℕ, Bool, true, false, refl, sym, ap, inl, inr, eq-eqb}
use Rattle.std.specs.Prelude.{◌⊎◌, ◌||◌, ◌&&◌, not, Option, Some, None}
use Rattle.std.specs.List.{list_any}
use Rattle.std.proofs.lemmas.Bool.{and_from, and_parts, both_ways, not-true, not_from_false}
use Rattle.aide_attr.specs.Attr.{all_attrs, index}
use Rattle.aide_attr.specs.Difference.{is_affected, is_changed}
use Rattle.aide_attr.specs.Set.{is_attr}
use Rattle.aide_attr.specs.declared.attr.Attr.{Attr}
use Rattle.aide_attr.specs.declared.attr.Attr.TheVariants.{Ftype, Linkcount, Lname}
use Rattle.aide_attr.specs.declared.file_type.FileType.{FileType}
use Rattle.aide_attr.specs.declared.file_type.FileType.TheVariants.{Other}
use Rattle.aide_attr.proofs.DifferenceLemmas.{attr_is}
use Rattle.aide_attr.proofs.WalkLemmas.{bool_cases}
use Rattle.aide_fields.specs.Attributes.{Attributes, sides_between, type_in}
use Rattle.aide_agreement.specs.Account.{Pair, is_as_trusted}
use Rattle.aide_agreement.specs.Agreement.{agree, have_targets, says_rights, shares_content}
use Rattle.aide_agreement.specs.Happened.{ChangedToo, DiffersAt, HappenedThere, KeepsRights, OtherContent, SameContent}
use Rattle.aide_agreement.specs.Meaning.{Agrees}
use Rattle.aide_agreement.specs.Own.{is_content, is_device, is_directory, is_right}
use Rattle.aide_agreement.specs.Trusted.{brings_right, changed_too, content_too, differs_in_content, has_other_content}
use Rattle.aide_agreement.specs.Trusted.{has_same_content, keeps_rights, links_too, moves_right, shows_other}
use Rattle.aide_agreement.proofs.Laws.{agree_from_meaning, content_from, files_share, links_have, meaning_of_agree}
use Rattle.aide_agreement.proofs.Laws.{says_by, says_from, targets_from, targets_of}
use Rattle.aide_agreement.proofs.ListLemmas.{found_any, none_at, none_of, some_at}
use Rattle.aide_agreement.proofs.SideLemmas.{affected_apart, affected_from, differ_at, differ_from, unaffected_at, unaffected_from}

behind : (a b : Bool) → a ≡ true → (a && b) ≡ false → b ≡ false
behind true b e h = h
behind false b e h = cc

none_by : (a b : Bool) → (a ≡ true → b ≡ false) → (a && b) ≡ false
none_by true b h = h refl
none_by false b h = refl

-- ---- one attribute

pub changed_means : (x y : Attributes) (a : Attr) → is_changed (sides_between x y) a ≡ true → DiffersAt a x y
changed_means x y a e =
    let d = differ_at (x a) (y a) e in
    record { first_value = d.0; second_value = d.1; in_first = d.2; in_second = d.3; apart = d.4 }

pub changed_from : (x y : Attributes) (a : Attr) → DiffersAt a x y → is_changed (sides_between x y) a ≡ true
changed_from x y a h = differ_from (x a) (y a) h.first_value h.second_value h.in_first h.in_second h.apart

-- ---- rights

pub kept_means : (old new : Attributes) → keeps_rights old new ≡ true → KeepsRights old new
kept_means old new e a right =
    unaffected_at (old a) (new a)
    (behind (is_right a) (is_affected (sides_between old new) a) right
    (none_at (moves_right (sides_between old new)) (not-true _ e) a))

pub kept_from : (old new : Attributes) → KeepsRights old new → keeps_rights old new ≡ true
kept_from old new h =
    not_from_false _ (none_of (moves_right (sides_between old new))
    (λ a. none_by (is_right a) (is_affected (sides_between old new) a) (λ right. unaffected_from (old a) (new a) (h a right)))
    all_attrs)

module _ (old new before : Attributes) where
  abbrev brought : Bool
  brought = list_any (brings_right (sides_between old new) (sides_between old before)) all_attrs

  rights_mean : brought ≡ false → (a : Attr) → is_right a ≡ true → old a ≢ new a → old a ≡ before a
  rights_mean e a right apart =
      unaffected_at (old a) (before a)
      (behind (moves_right (sides_between old new) a) (is_affected (sides_between old before) a)
      (and_from (is_right a) (is_affected (sides_between old new) a) right (affected_from (old a) (new a) apart))
      (none_at (brings_right (sides_between old new) (sides_between old before)) e a))

  rights_from : ((a : Attr) → is_right a ≡ true → old a ≢ new a → old a ≡ before a) → brought ≡ false
  rights_from h =
      none_of (brings_right (sides_between old new) (sides_between old before))
      (λ a. none_by (moves_right (sides_between old new) a) (is_affected (sides_between old before) a) (λ moved.
      let parts = and_parts (is_right a) (is_affected (sides_between old new) a) moved in
      unaffected_from (old a) (before a) (h a parts.0 (affected_apart (old a) (new a) parts.1))))
      all_attrs

-- ---- links

third : (a b c : Bool) → (not a || (not b || c)) ≡ true → a ≡ true → b ≡ true → c ≡ true
third true true c h e f = h
third true false c h e f = cc
third false b c h e f = cc

either : (a b c : Bool) → (a ≡ true → (b ≡ false) ⊎ (c ≡ true)) → (not a || (not b || c)) ≡ true
either false b c h = refl
either true b c h = by b c (h refl)
  where
    by : (b c : Bool) → (b ≡ false) ⊎ (c ≡ true) → (not b || c) ≡ true
    by false c e = refl
    by true c (inl e) = cc
    by true c (inr e) = e

module _ (old new before there : Attributes) where
  links_mean : links_too (sides_between old new) (sides_between old before) (sides_between before there) ≡ true
      → old Linkcount ≢ new Linkcount → (old Linkcount ≡ before Linkcount) ⊎ DiffersAt Linkcount before there
  links_mean e apart = elim (bool_cases (is_affected (sides_between old before) Linkcount)) [
    | inl is ↦ inr (changed_means before there Linkcount
        (third (is_affected (sides_between old new) Linkcount) (is_affected (sides_between old before) Linkcount)
        (is_changed (sides_between before there) Linkcount) e (affected_from (old Linkcount) (new Linkcount) apart) is))
    | inr is ↦ inl (unaffected_at (old Linkcount) (before Linkcount) is)
  ]

  links_from : (old Linkcount ≢ new Linkcount → (old Linkcount ≡ before Linkcount) ⊎ DiffersAt Linkcount before there)
      → links_too (sides_between old new) (sides_between old before) (sides_between before there) ≡ true
  links_from h =
      either (is_affected (sides_between old new) Linkcount) (is_affected (sides_between old before) Linkcount)
      (is_changed (sides_between before there) Linkcount)
      (λ is. elim (h (affected_apart (old Linkcount) (new Linkcount) is)) [
        | inl same ↦ inl (unaffected_from (old Linkcount) (before Linkcount) same)
        | inr differs ↦ inr (changed_from before there Linkcount differs)
      ])

-- ---- contents

module _ (kind : FileType) (x y : Attributes) where
  pub same_means : has_same_content kind (sides_between x y) (have_targets x y) ≡ true → SameContent kind x y
  same_means e =
      let both = and_parts (shares_content kind (sides_between x y) (have_targets x y)) _ e in
      record {
        parts = λ a of_content differs.
            both_ways (differs_in_content (is_directory kind) (sides_between x y) a)
            (none_at (differs_in_content (is_directory kind) (sides_between x y)) (not-true _ both.1) a)
            (and_from (is_changed (sides_between x y) a) (is_content (is_directory kind) a) (changed_from x y a differs) of_content);
        shared = files_share x y kind both.0;
        target = links_have x y kind both.0;
      }

  pub same_from : ((bits : ℕ) → kind ≢ Other bits) → is_device kind ≡ false → SameContent kind x y
      → has_same_content kind (sides_between x y) (have_targets x y) ≡ true
  same_from known no_device h =
      and_from (shares_content kind (sides_between x y) (have_targets x y)) _
      (content_from x y kind known no_device h.shared h.target)
      (not_from_false _ (none_of (differs_in_content (is_directory kind) (sides_between x y)) (λ a.
      none_by (is_changed (sides_between x y) a) (is_content (is_directory kind) a) (λ changed.
      no (is_content (is_directory kind) a) (λ of_content. h.parts a of_content (changed_means x y a changed))))
      all_attrs))
    where
      no : (b : Bool) → (b ≡ true → ⊥) → b ≡ false
      no true h = absurd (h refl)
      no false h = refl

  is_itself : is_attr Lname Lname ≡ true
  is_itself = eq-eqb (index Lname) (index Lname) refl

  by_target : (targets link : Bool) → (targets || not link) ≡ true → link ≡ true → targets ≡ true
  by_target true link h e = refl
  by_target false true h e = cc
  by_target false false h e = cc

  pub other_means : has_other_content kind (sides_between x y) (have_targets x y) ≡ true → OtherContent kind x y
  other_means e =
      let found = found_any (shows_other (is_directory kind) (have_targets x y) (sides_between x y)) all_attrs e in
      let parts = and_parts (differs_in_content (is_directory kind) (sides_between x y) found.0)
      (have_targets x y || not (is_attr found.0 Lname)) found.1 in
      let differs = and_parts (is_changed (sides_between x y) found.0) (is_content (is_directory kind) found.0) parts.0 in
      record {
        part = found.0;
        of_content = differs.1;
        differs = changed_means x y found.0 differs.0;
        target = λ is. targets_of x y
            (by_target (have_targets x y) (is_attr found.0 Lname) parts.1 (ap (λ a. is_attr a Lname) is ∙ is_itself));
      }

  pub other_from : OtherContent kind x y → has_other_content kind (sides_between x y) (have_targets x y) ≡ true
  other_from h =
      some_at (shows_other (is_directory kind) (have_targets x y) (sides_between x y)) h.part
      (and_from (differs_in_content (is_directory kind) (sides_between x y) h.part) _
      (and_from (is_changed (sides_between x y) h.part) (is_content (is_directory kind) h.part)
      (changed_from x y h.part h.differs) h.of_content)
      (has_targets (have_targets x y) (is_attr h.part Lname) (λ is. targets_from x y (h.target (attr_is h.part Lname is)))))
    where
      has_targets : (targets link : Bool) → (link ≡ true → targets ≡ true) → (targets || not link) ≡ true
      has_targets true link h = refl
      has_targets false true h = h refl
      has_targets false false h = refl

-- ---- what changed

or_means : (a b : Bool) → (a || b) ≡ true → (a ≡ true) ⊎ (b ≡ true)
or_means true b h = inl refl
or_means false b h = inr h

or_left : (a b : Bool) → a ≡ true → (a || b) ≡ true
or_left true b h = refl
or_left false b h = cc

or_right : (a b : Bool) → b ≡ true → (a || b) ≡ true
or_right true b h = refl
or_right false b h = h

module _ (old new before there : Attributes) where
  content_means : (o : Option FileType) → type_in (new Ftype) ≡ o
      → content_too o (sides_between old new) (sides_between before there) (have_targets old new) (have_targets before there) ≡ true
      → (kind : FileType) × (type_in (new Ftype) ≡ Some kind) × (SameContent kind old new ⊎ OtherContent kind before there)
  content_means None is e = cc
  content_means (Some kind) is e = (
    kind,
    is,
    elim (or_means (has_same_content kind (sides_between old new) (have_targets old new)) _ e) [
      | inl same ↦ inl (same_means kind old new same)
      | inr other ↦ inr (other_means kind before there other)
    ],
  )

  pub changed_too_means : changed_too old new before there ≡ true → ChangedToo old new before there
  unfolding changed_too
  changed_too_means e =
      let a = and_parts (says_rights (sides_between old new).in_old) _ e in
      let b = and_parts (not (brought old new before)) _ a.1 in
      let c = and_parts (links_too (sides_between old new) (sides_between old before) (sides_between before there)) _ b.1 in
      let content = content_means (type_in (new Ftype)) refl c.1 in
      record {
        kind = content.0;
        typed = content.1;
        known = says_by old a.0;
        rights = rights_mean old new before (not-true _ b.0);
        links = links_mean old new before there c.0;
        content = content.2;
      }

  pub changed_too_from : (h : ChangedToo old new before there) → ((bits : ℕ) → h.kind ≢ Other bits) → is_device h.kind ≡ false
      → changed_too old new before there ≡ true
  unfolding changed_too
  changed_too_from h known no_device =
      and_from (says_rights (sides_between old new).in_old) _ (says_from old h.known)
      (and_from (not (brought old new before)) _ (not_from_false _ (rights_from old new before h.rights))
      (and_from (links_too (sides_between old new) (sides_between old before) (sides_between before there)) _
      (links_from old new before there h.links)
      (ap (λ o. content_too o (sides_between old new) (sides_between before there) (have_targets old new) (have_targets before there))
      h.typed
      ∙ elim h.content [
        | inl same ↦ or_left _ _ (same_from h.kind old new known no_device same)
        | inr other ↦ or_right _ _ (other_from h.kind before there other)
      ])))

-- ---- what happened

apart_means : (x y : Attributes) → agree x y ≡ false → Agrees x y → ⊥
apart_means x y e h = both_ways (agree x y) e (agree_from_meaning x y h)

apart_from : (x y : Attributes) → (Agrees x y → ⊥) → agree x y ≡ false
apart_from x y h = elim (bool_cases (agree x y)) [
  | inl is ↦ absurd (h (meaning_of_agree x y is))
  | inr is ↦ is
]

same_kind : (x y : FileType) → Some x ≡ Some y → x ≡ y
same_kind x y e = cc

-- The test tells only what happened there,
pub happened_means : (found trusted : Pair) → is_as_trusted found trusted ≡ true → HappenedThere found trusted
happened_means (None, Some new) (None, Some there) e = meaning_of_agree new there (and_parts (agree new there) true e).0
happened_means (Some old, Some new) (None, Some there) e =
    let h = and_parts (agree new there) (keeps_rights old new) e in
    (meaning_of_agree new there h.0, kept_means old new h.1)
happened_means (Some old, Some new) (Some before, Some there) e =
    let h = and_parts (agree new there) _ e in
    let k = and_parts (not (agree before there)) (changed_too old new before there) h.1 in (
      meaning_of_agree new there h.0,
      apart_means before there (not-true (agree before there) k.0),
      changed_too_means old new before there k.1,
    )
happened_means (None, Some new) (Some before, Some there) e =
    let f = (and_parts (agree new there) false e).1 in cc
happened_means (Some old, None) (Some before, None) e = meaning_of_agree old before e
happened_means (old, Some new) (before, None) e = cc
happened_means (Some old, None) (None, None) e = cc
happened_means (Some old, None) (None, Some there) e = cc
happened_means (Some old, None) (Some before, Some there) e = cc
happened_means (None, None) trusted e = cc

-- and all that happened there.
pub happened_from : (found trusted : Pair) → HappenedThere found trusted → is_as_trusted found trusted ≡ true
happened_from (None, Some new) (None, Some there) h = and_from (agree new there) true (agree_from_meaning new there h) refl
happened_from (Some old, Some new) (None, Some there) h =
    and_from (agree new there) (keeps_rights old new) (agree_from_meaning new there h.0) (kept_from old new h.1)
happened_from (Some old, Some new) (Some before, Some there) h =
    let kind : h.2.kind ≡ h.0.kind = same_kind h.2.kind h.0.kind (sym h.2.typed ∙ h.0.of_first) in
    and_from (agree new there) _ (agree_from_meaning new there h.0)
    (and_from (not (agree before there)) (changed_too old new before there) (not_from_false _ (apart_from before there h.1))
    (changed_too_from old new before there h.2 (λ bits is. h.0.known bits (sym kind ∙ is)) (ap is_device kind ∙ h.0.no_device)))
happened_from (None, Some new) (Some before, Some there) h = absurd h
happened_from (Some old, None) (Some before, None) h = agree_from_meaning old before h
happened_from (None, Some new) (None, None) h = absurd h
happened_from (None, Some new) (Some before, None) h = absurd h
happened_from (Some old, Some new) (None, None) h = absurd h
happened_from (Some old, Some new) (Some before, None) h = absurd h
happened_from (Some old, None) (None, None) h = absurd h
happened_from (Some old, None) (None, Some there) h = absurd h
happened_from (Some old, None) (Some before, Some there) h = absurd h
happened_from (None, None) (None, None) h = absurd h
happened_from (None, None) (None, Some there) h = absurd h
happened_from (None, None) (Some before, None) h = absurd h
happened_from (None, None) (Some before, Some there) h = absurd h
