-- Laws of what a trusted machine accounts for.
use Rattle.std.proofs.Common.{◌≡◌, ◌≢◌, ◌∙◌, Bool, true, false, refl, sym, ap, subst, inl, inr, eq-eqb}
use Rattle.std.specs.Prelude.{◌⊎◌, ◌&&◌, ⊤, Option, Some, None, is_some}
use Rattle.std.specs.List.{list_any}
use Rattle.std.proofs.lemmas.Bool.{both_ways, not-true, or_from, or_parts}
use Rattle.aide_attr.specs.Set.{is_attr}
use Rattle.aide_attr.specs.declared.attr.Attr.{Attr}
use Rattle.aide_attr.specs.declared.attr.Attr.TheVariants.{Linkcount, Lname}
use Rattle.aide_attr.specs.declared.file_type.FileType.{FileType}
use Rattle.aide_attr.specs.declared.file_type.FileType.TheVariants.{File, Link}
use Rattle.aide_attr.specs.Attr.{index}
use Rattle.aide_attr.proofs.DifferenceLemmas.{attr_is}
use Rattle.aide_attr.proofs.WalkLemmas.{bool_cases}
use Rattle.aide_fields.specs.Attributes.{Attributes, Value, is_different, sides_between, type_in}
use Rattle.aide_attr.specs.declared.attr.Attr.TheVariants.{Ftype, Gid, Perm, Uid}
use Rattle.aide_agreement.specs.Account.{Pair, is_as_old, same_as}
use Rattle.aide_agreement.specs.Happened.{DiffersAt, HappenedThere, KeepsRights, OtherContent, RightsCameToo}
use Rattle.aide_agreement.specs.Happened.{SameContent}
use Rattle.aide_agreement.specs.Agreement.{have_targets}
use Rattle.aide_agreement.specs.Meaning.{Agrees, HasTarget, SaysRights, SharesDigest}
use Rattle.aide_agreement.specs.Trusted.{has_other_content}
use Rattle.aide_agreement.specs.Own.{directory_attrs, is_content, is_digest, is_directory, is_own, is_right, is_strong}
use Rattle.aide_agreement.specs.Own.{link_attrs, own_attrs}
use Rattle.aide_agreement.specs.declared.account.SameAs.{SameAs}
use Rattle.aide_agreement.specs.declared.account.SameAs.TheVariants.{Old, Trusted}
use Rattle.aide_agreement.proofs.HappenedLemmas.{changed_means, happened_means, other_from, other_means}
use Rattle.aide_agreement.proofs.Laws.{meaning_of_agree, old_agrees, says_too, trusted_has}
use Rattle.aide_agreement.proofs.SetLemmas.{content_not_own, digest_of_content, links_kept, needed_right, strong_is_digest}
use Rattle.aide_agreement.proofs.SetLemmas.{target_no_digest, target_of_content, type_no_digest, type_no_target, type_of_content}
use Rattle.aide_agreement.proofs.SideLemmas.{apart_by, changed_of, equal_values}

-- a right is neither a machine's own nor a digest
right_kept : (directories : Bool) (a : Attr) → is_right a ≡ true → (is_own directories a ≡ false) × (is_digest a ≡ false)
right_kept directories a right =
    let parts = or_parts (is_own true a) _ (not-true _ right) in
    let own = or_parts (list_any (is_attr a) own_attrs) (list_any (is_attr a) directory_attrs) parts.0 in
    (owned directories own.0 own.1, (or_parts (is_digest a) (list_any (is_attr a) link_attrs) parts.1).0)
  where
    owned : (d : Bool) → list_any (is_attr a) own_attrs ≡ false → list_any (is_attr a) directory_attrs ≡ false
        → is_own d a ≡ false
    owned true e f = or_from (list_any (is_attr a) own_attrs) (list_any (is_attr a) directory_attrs) e f
    owned false e f = or_from (list_any (is_attr a) own_attrs) false e refl

-- Entries that agree give the same rights.
pub agreed_rights : (x y : Attributes) → Agrees x y → KeepsRights x y
agreed_rights x y h a right =
    let kept = right_kept (is_directory h.kind) a right in h.alike a kept.0 kept.1

happened_at : (found trusted : Pair) → same_as found trusted ≡ Some Trusted → HappenedThere found trusted
happened_at found trusted e = happened_means found trusted (trusted_has found trusted e)

came_too : (found trusted : Pair) → HappenedThere found trusted → RightsCameToo found trusted
came_too (None, Some new) (None, Some there) h = (there, refl, agreed_rights new there h)
came_too (None, Some new) (None, None) h = absurd h
came_too (None, Some new) (Some before, None) h = absurd h
came_too (None, Some new) (Some before, Some there) h = absurd h
came_too (Some old, Some new) (None, Some there) h = λ a right apart. absurd (apart (h.1 a right))
came_too (Some old, Some new) (Some before, Some there) h = λ a right apart.
    let from = h.2.rights a right apart in
    let to = agreed_rights new there h.0 a right in
    record { before = before; there = there; both = refl; from = from; to = to; step = λ e. apart (from ∙ (e ∙ sym to)) }
came_too (Some old, Some new) (None, None) h = absurd h
came_too (Some old, Some new) (Some before, None) h = absurd h
came_too (Some old, None) trusted h = tt
came_too (None, None) trusted h = tt

-- Where a trusted machine accounts for a change, no right is new here but by the same step there.
pub rights_came_too : (found trusted : Pair) → same_as found trusted ≡ Some Trusted → RightsCameToo found trusted
rights_came_too found trusted e = came_too found trusted (happened_at found trusted e)

-- each entry says who may do what
abbrev pub SayRights : Pair → Type 0
SayRights (Some old, Some new) = SaysRights old × SaysRights new
SayRights (Some old, None) = SaysRights old
SayRights (None, Some new) = SaysRights new
SayRights (None, None) = ⊤

says_as : (old new : Attributes) → KeepsRights old new → SaysRights new → SaysRights old
says_as old new kept says =
    says_too new old says (sym (kept Perm (needed_right Perm refl))) (sym (kept Uid (needed_right Uid refl)))
    (sym (kept Gid (needed_right Gid refl)))

trusted_says : (found trusted : Pair) → HappenedThere found trusted → SayRights found
trusted_says (None, Some new) (None, Some there) h = h.rights.0
trusted_says (Some old, Some new) (None, Some there) h = (says_as old new h.1 h.0.rights.0, h.0.rights.0)
trusted_says (Some old, Some new) (Some before, Some there) h = (h.2.known, h.0.rights.0)
trusted_says (Some old, None) (Some before, None) h = h.rights.0
trusted_says (None, Some new) (None, None) h = absurd h
trusted_says (None, Some new) (Some before, None) h = absurd h
trusted_says (None, Some new) (Some before, Some there) h = absurd h
trusted_says (Some old, Some new) (None, None) h = absurd h
trusted_says (Some old, Some new) (Some before, None) h = absurd h
trusted_says (Some old, None) (None, None) h = absurd h
trusted_says (Some old, None) (None, Some there) h = absurd h
trusted_says (Some old, None) (Some before, Some there) h = absurd h
trusted_says (None, None) trusted h = tt

old_says : (found : Pair) → is_as_old found ≡ true → SayRights found
old_says (Some old, Some new) e = (meaning_of_agree old new e).rights
old_says (Some old, None) e = cc
old_says (None, Some new) e = cc
old_says (None, None) e = cc

-- Nothing accounts for a change unless each of its entries says who may do what.
pub accounted_says_rights : (found trusted : Pair) (account : SameAs) → same_as found trusted ≡ Some account → SayRights found
accounted_says_rights found trusted Old e = old_says found (old_agrees found trusted e)
accounted_says_rights found trusted Trusted e = trusted_says found trusted (happened_at found trusted e)

-- What is new here is new there.
pub new_is_new_there : (new : Attributes) (trusted : Pair) → same_as (None, Some new) trusted ≡ Some Trusted
    → (there : Attributes) × (trusted ≡ (None, Some there)) × Agrees new there
new_is_new_there new trusted e = by trusted (happened_at (None, Some new) trusted e)
  where
    by : (trusted : Pair) → HappenedThere (None, Some new) trusted
        → (there : Attributes) × (trusted ≡ (None, Some there)) × Agrees new there
    by (None, Some there) h = (there, refl, h)
    by (None, None) h = absurd h
    by (Some before, None) h = absurd h
    by (Some before, Some there) h = absurd h

-- A trusted pair whose entries agree accounts for nothing.
pub still_pair_accounts_for_nothing : (found : Pair) (before there : Attributes) → Agrees before there
    → same_as found (Some before, Some there) ≡ Some Trusted → ⊥
still_pair_accounts_for_nothing found before there agrees e = by found (happened_at found (Some before, Some there) e)
  where
    by : (found : Pair) → HappenedThere found (Some before, Some there) → ⊥
    by (Some old, Some new) h = h.1 agrees
    by (Some old, None) h = h
    by (None, Some new) h = h
    by (None, None) h = h

module _ (old new before there : Attributes) (e : same_as (Some old, Some new) (Some before, Some there) ≡ Some Trusted) where
  -- A content that is surely another one here is surely another one there.
  pub other_content_there : (kind : FileType) → type_in (new Ftype) ≡ Some kind → OtherContent kind old new
      → OtherContent kind before there
  other_content_there kind typed other =
      let h = (happened_at (Some old, Some new) (Some before, Some there) e).2 in
      let same = one_kind h.kind kind (sym h.typed ∙ typed) in
      elim h.content [
        | inl alike ↦ absurd (alike.parts other.part
            (ap (λ k. is_content (is_directory k) other.part) same ∙ other.of_content) other.differs)
        | inr there_too ↦ of_kind same there_too
      ]
    where
      one_kind : (x y : FileType) → Some x ≡ Some y → x ≡ y
      one_kind x y f = cc

      of_kind : {x y : FileType} → x ≡ y → OtherContent x before there → OtherContent y before there
      of_kind f h = subst (λ k. OtherContent k before there) f h

  -- If the link count changed here, it changed there.
  pub links_changed_there : old Linkcount ≢ new Linkcount → before Linkcount ≢ there Linkcount
  links_changed_there apart same =
      let h = happened_at (Some old, Some new) (Some before, Some there) e in
      elim (h.2.links apart) [
        | inl from ↦ apart (from ∙ (same ∙ sym (links_agree h.0)))
        | inr differs ↦ differs.apart (one_value differs (sym differs.in_first ∙ (same ∙ differs.in_second)))
      ]
    where
      links_agree : Agrees new there → new Linkcount ≡ there Linkcount
      links_agree h = let kept = links_kept (is_directory h.kind) in h.alike Linkcount kept.0 kept.1

      one_value : (d : DiffersAt Linkcount before there) → Some d.first_value ≡ Some d.second_value
          → d.first_value ≡ d.second_value
      one_value d f = cc

-- ---- a trusted machine whose old entry is the one here

-- An old entry says as much of its content as the new one and the one there: it has a type, and each digest of at least
-- 256 bits that both have, and a link has a target. If it differs from the new one in a digest, it differs in each such
-- digest that both have. Only files have digests, and only links other targets.
pub record SaysAsMuch (kind : FileType) (old new there : Attributes) : Type 0 where
  pub typed : is_some (old Ftype) ≡ true
  pub digests : (a : Attr) → is_strong a ≡ true → is_some (new a) ≡ true → is_some (there a) ≡ true → is_some (old a) ≡ true
  pub target : type_in (old Ftype) ≡ Some Link → HasTarget old
  pub consistent : (a b : Attr) → is_digest a ≡ true → is_strong b ≡ true → DiffersAt a old new → (x y : Value)
      → old b ≡ Some x → new b ≡ Some y → x ≢ y
  pub files : kind ≢ File → (a : Attr) → is_digest a ≡ true → new a ≡ None
  pub links : kind ≢ Link → old Lname ≡ new Lname

value_of : (o : Option Value) → is_some o ≡ true → (v : Value) × (o ≡ Some v)
value_of (Some v) e = (v, refl)
value_of None e = cc

typed_value : (o : Option Value) (kind : FileType) → type_in o ≡ Some kind → (v : Value) × (o ≡ Some v)
typed_value (Some v) kind e = (v, refl)
typed_value None kind e = cc

is_file : (kind : FileType) → (kind ≡ File) ⊎ (kind ≢ File)
is_file File = inl refl
is_file _ = inr (λ e. cc)

is_link : (kind : FileType) → (kind ≡ Link) ⊎ (kind ≢ Link)
is_link Link = inl refl
is_link _ = inr (λ e. cc)

of_three : (b : Bool) → (b && true && true) ≡ false → b ≡ false
of_three true e = cc
of_three false e = refl

module _ (old new there : Attributes) (h : Agrees new there) (much : SaysAsMuch h.kind old new there)
    (none : OtherContent h.kind old there → ⊥) where
  -- a part that is no digest and no target is the same there as here
  no_part : (a : Attr) → is_content (is_directory h.kind) a ≡ true → is_digest a ≡ false → a ≢ Lname → DiffersAt a old new → ⊥
  no_part a of_content digest other d =
      let same = h.alike a (content_not_own (is_directory h.kind) a of_content) digest in
      none (record {
        part = a;
        of_content = of_content;
        differs = record {
          first_value = d.first_value;
          second_value = d.second_value;
          in_first = d.in_first;
          in_second = sym same ∙ d.in_second;
          apart = d.apart;
        };
        target = λ is. absurd (other is);
      })

  one_type : type_in (old Ftype) ≡ Some h.kind
  one_type =
      let v = value_of (old Ftype) much.typed in
      let w = typed_value (new Ftype) h.kind h.of_first in
      elim (bool_cases (changed_of (old Ftype) (new Ftype))) [
        | inl is ↦ absurd (no_part Ftype (type_of_content (is_directory h.kind)) type_no_digest type_no_target
            (changed_means old new Ftype is))
        | inr is ↦ ap type_in (v.1 ∙ (ap Some (equal_values v.0 w.0 (unchanged v.0 w.0 v.1 w.1 is)) ∙ sym w.1)) ∙ h.of_first
      ]
    where
      unchanged : (v w : Value) → old Ftype ≡ Some v → new Ftype ≡ Some w → changed_of (old Ftype) (new Ftype) ≡ false
          → is_different (Some v) (Some w) ≡ false
      unchanged v w e f is = of_three (is_different (Some v) (Some w)) ((λ i. changed_of (sym e i) (sym f i)) ∙ is)

  -- files have the digest in common that the new entry has in common with the one there
  shared_digest : h.kind ≡ File → SharesDigest old new
  shared_digest is =
      let d = h.shared is in
      let v = value_of (old d.attribute) (much.digests d.attribute d.strong (ap is_some d.in_first) (ap is_some d.in_second)) in
      let digest = strong_is_digest d.attribute d.strong in
      elim (bool_cases (is_different (Some v.0) (Some d.value))) [
        | inl apart ↦ absurd (none (record {
          part = d.attribute;
          of_content = digest_of_content (is_directory h.kind) d.attribute digest;
          differs = record {
            first_value = v.0;
            second_value = d.value;
            in_first = v.1;
            in_second = d.in_second;
            apart = apart_by v.0 d.value (ap (λ b. b && true && true) apart);
          };
          target = λ e. absurd (both_ways (is_digest Lname) target_no_digest (ap is_digest (sym e) ∙ digest));
        }))
        | inr same ↦ record {
          attribute = d.attribute;
          value = d.value;
          strong = d.strong;
          in_first = v.1 ∙ ap Some (equal_values v.0 d.value same);
          in_second = d.in_first;
        }
      ]

  no_digest : (a : Attr) → is_digest a ≡ true → DiffersAt a old new → ⊥
  no_digest a digest d = elim (is_file h.kind) [
    | inl is ↦ let s = shared_digest is in
        much.consistent a s.attribute digest s.strong d s.value s.value s.in_first s.in_second refl
    | inr other ↦ let e = sym (much.files other a digest) ∙ d.in_second in cc
  ]

  targets : h.kind ≡ Link → HasTarget old × HasTarget new
  targets is = (much.target (one_type ∙ ap Some is), (h.target is).0)

  no_target : DiffersAt Lname old new → ⊥
  no_target d = elim (is_link h.kind) [
    | inl is ↦ none (record {
      part = Lname;
      of_content = target_of_content (is_directory h.kind);
      differs = record {
        first_value = d.first_value;
        second_value = d.second_value;
        in_first = d.in_first;
        in_second = sym (h.alike Lname (content_not_own (is_directory h.kind) Lname (target_of_content (is_directory h.kind)))
            target_no_digest) ∙ d.in_second;
        apart = d.apart;
      };
      target = λ e. ((targets is).0, (h.target is).1);
    })
    | inr other ↦ d.apart (one_value (sym d.in_first ∙ (much.links other ∙ d.in_second)))
  ]
    where
      one_value : {x y : Value} → Some x ≡ Some y → x ≡ y
      one_value e = cc

  same_content : SameContent h.kind old new
  same_content = record {
    parts = λ a of_content d. elim (bool_cases (is_digest a)) [
      | inl digest ↦ no_digest a digest d
      | inr digest ↦ elim (bool_cases (is_attr a Lname)) [
        | inl is ↦ no_target (subst (λ b. DiffersAt b old new) (attr_is a Lname is) d)
        | inr is ↦ no_part a of_content digest
            (λ e. both_ways (is_attr a Lname) is (ap (λ b. is_attr b Lname) e ∙ eq-eqb (index Lname) (index Lname) refl)) d
      ]
    ];
    shared = shared_digest;
    target = targets;
  }

-- A trusted machine whose old entry is the one here accounts for each entry that agrees with its new one, if that does not
-- agree with the old one, and the old one says who may do what, and as much of its content.
pub own_old_entry_suffices : (old new there : Attributes) (h : Agrees new there) → (Agrees old there → ⊥) → SaysRights old
    → SaysAsMuch h.kind old new there → HappenedThere (Some old, Some new) (Some old, Some there)
own_old_entry_suffices old new there h apart says much = (
  h,
  apart,
  record {
    kind = h.kind;
    typed = h.of_first;
    known = says;
    rights = λ a right other. refl;
    links = λ other. inl refl;
    content = elim (bool_cases (has_other_content h.kind (sides_between old there) (have_targets old there))) [
      | inl is ↦ inr (other_means h.kind old there is)
      | inr is ↦ inl (same_content old new there h much
          (λ other. both_ways (has_other_content h.kind (sides_between old there) (have_targets old there)) is
          (other_from h.kind old there other)))
    ];
  },
)
