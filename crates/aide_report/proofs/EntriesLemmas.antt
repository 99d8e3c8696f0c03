-- What a section says of changes, one after another.
use Rattle.std.proofs.Common.{◌≡◌, ◌∙◌, ◌&&◌, ℕ, Bool, true, false, if◌then◌else◌, cond, List, [], ◌∷◌, ◌++◌, refl, sym, ap, ◌+◌, Some}
use Rattle.std.proofs.Common.{None, ◌<◌, ◌≤◌, length, drop, get_or}
use Rattle.std.specs.List.{flat_map, filter}
use Rattle.std.proofs.lemmas.List.{drop_more, drop_all}
use Rattle.aide_agreement.specs.Account.{Pair}
use Rattle.aide_attr.specs.declared.attr.Attr.{Attr}
use Rattle.aide_conf.specs.declared.options.Options.{Options}
use Rattle.aide_fields.specs.Attributes.{Entry}
use Rattle.aide_merge.specs.code.ChangeView.{alike_of}
use Rattle.aide_merge.specs.Changed.{differ_by}
use Rattle.aide_merge.specs.Said.{PathChange}
use Rattle.aide_report_specs.specs.Entries.{attribute_text, attributes_text, shown_text}
use Rattle.aide_merge.specs.Said.{all_listed, is_in}
use Rattle.aide_report_specs.specs.Sections.{lists, entry_text, one_text, entries_text}
use Rattle.aide_merge.proofs.SameEntries.{and_no, in_none, nowhere}
use Rattle.aide_merge.proofs.PassingLemmas.{all_passing}
use Rattle.aide_text.specs.declared.section.Contents.{Contents}
use Rattle.aide_text.specs.declared.section.Contents.TheVariants.{Listed, Detailed}

pub each_entry : (options : Options) (contents : Contents) (entries : List PathChange)
    → flat_map (one_text options contents) entries ≡ entries_text options contents entries
unfolding one_text entries_text
each_entry options contents entries = all_passing (entry_text options contents) (is_in options contents) entries

-- ---- one change

pub text_of_one : (options : Options) (contents : Contents) (entry : PathChange) → is_in options contents entry ≡ true
    → entry_text options contents entry ≡ one_text options contents entry
unfolding one_text
text_of_one options contents entry h = sym (ap (λ b. if b then entry_text options contents entry else []) h)

pub text_of_none : (options : Options) (contents : Contents) (entry : PathChange) → is_in options contents entry ≡ false
    → [] ≡ one_text options contents entry
unfolding one_text
text_of_none options contents entry h = sym (ap (λ b. if b then entry_text options contents entry else []) h)

-- an entry that both sides have alike has no text
pub alike_text : (options : Options) (contents : Contents) (entry : Entry) → one_text options contents (alike_of entry) ≡ []
alike_text options contents entry = sym (text_of_none options contents (alike_of entry) (in_none options contents entry))

-- a list that has such changes says what the list of all says
pub listed_text : (options : Options) (contents : Contents) (entry : PathChange) → lists contents entry ≡ true
    → one_text options all_listed entry ≡ one_text options contents entry
unfolding one_text
listed_text options Detailed entry l = cc
listed_text options (Listed a r c) (path, (None, None)) l = cc
listed_text options (Listed a r c) (path, (None, Some new)) l = rw l refl
listed_text options (Listed true r c) (path, (Some old, None)) l = rw l refl
listed_text options (Listed false r c) (path, (Some old, None)) l = rw l refl
listed_text options (Listed true true c) (path, (Some old, Some new)) l = rw l refl
listed_text options (Listed true false c) (path, (Some old, Some new)) l = rw l refl
listed_text options (Listed false true c) (path, (Some old, Some new)) l = rw l refl
listed_text options (Listed false false c) (path, (Some old, Some new)) l = rw l refl

unlisted : (options : Options) (a r c : Bool) (entry : PathChange) → lists (Listed a r c) entry ≡ false
    → is_in options (Listed a r c) entry ≡ false
unlisted options a r c (path, (None, None)) l =
    nowhere (a && false) (r && false) (c && false) (and_no a) (and_no r) (and_no c)
unlisted options a r c (path, (None, Some new)) l =
    nowhere (a && true) (r && false) (c && false) (ap (λ b. b && true) l) (and_no r) (and_no c)
unlisted options a r c (path, (Some old, None)) l =
    nowhere (a && false) (r && true) (c && false) (and_no a) (ap (λ b. b && true) l) (and_no c)
unlisted options a r c (path, (Some old, Some new)) l =
    nowhere (a && false) (r && false) (c && differ_by options.ignore old new) (and_no a) (and_no r)
    (ap (λ b. b && differ_by options.ignore old new) l)

-- a list that has no such changes says nothing
pub unlisted_text : (options : Options) (contents : Contents) (entry : PathChange) → (contents ≡ Detailed → ⊥)
    → lists contents entry ≡ false → [] ≡ one_text options contents entry
unlisted_text options Detailed entry h l = absurd (h refl)
unlisted_text options (Listed a r c) entry h l =
    text_of_none options (Listed a r c) entry (unlisted options a r c entry l)

-- ---- the attributes that details show

pub shown_first : (base16 : Bool) (pair : Pair) (shows : Attr → Bool) (a : Attr) (rest : List Attr)
    → attributes_text base16 pair shows (a ∷ rest) ≡ shown_text base16 pair shows a ++ attributes_text base16 pair shows rest
unfolding attributes_text shown_text
shown_first base16 pair shows a rest = by_shown (shows a)
  where
    by_shown : (b : Bool) → flat_map (attribute_text base16 pair) (cond b (a ∷ filter shows rest) (filter shows rest))
        ≡ (if b then attribute_text base16 pair a else []) ++ flat_map (attribute_text base16 pair) (filter shows rest)
    by_shown true = refl
    by_shown false = refl

pub shown_drop : (base16 : Bool) (pair : Pair) (shows : Attr → Bool) (attrs : List Attr) (i : ℕ) (d : Attr)
    → i < length attrs
    → attributes_text base16 pair shows (drop i attrs) ≡ shown_text base16 pair shows (get_or attrs i d)
    ++ attributes_text base16 pair shows (drop (i + 1) attrs)
shown_drop base16 pair shows attrs i d h =
    ap (attributes_text base16 pair shows) (drop_more attrs i d h) ∙ shown_first base16 pair shows (get_or attrs i d) (drop (i + 1) attrs)

pub shown_end : (base16 : Bool) (pair : Pair) (shows : Attr → Bool) (attrs : List Attr) (i : ℕ) → length attrs ≤ i
    → attributes_text base16 pair shows (drop i attrs) ≡ []
unfolding attributes_text
shown_end base16 pair shows attrs i h =
    ap (λ xs. flat_map (attribute_text base16 pair) (filter shows xs)) (drop_all i attrs h)

-- two tests that agree show the same
pub shown_as : (base16 : Bool) (pair : Pair) (p q : Attr → Bool) (attrs : List Attr) → ((a : Attr) → p a ≡ q a)
    → attributes_text base16 pair p attrs ≡ attributes_text base16 pair q attrs
shown_as base16 pair p q attrs same i = attributes_text base16 pair (λ a. same a i) attrs
