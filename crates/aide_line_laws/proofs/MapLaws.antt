-- A path has a line exactly if the databases differ there, and the line says what accounts for this.
use Rattle.std.proofs.Common.{◌≡◌, ◌∙◌, ◌∷◌, Bool, List, None, Option, Some, [], ap, false, inl, inr, map, refl, rules, subst, sym, true, ℕ}
use Rattle.std.proofs.Common.{if◌then◌else◌}
use Rattle.std.specs.Prelude.{cond, T}
use Rattle.std.specs.List.{AllByRecursion}
use Rattle.std.specs.Ordering.{is_eq, is_lt, eq_by_cmp, ordering_reverse}
use Rattle.std.specs.declared.cmp.Ordering.{Ordering}
use Rattle.std.specs.declared.cmp.Ordering.TheVariants.{Less, Equal, Greater}
use Rattle.std.specs.Cmp.{tied_itself}
use Rattle.std.specs.FinMap.{entries_sorted, get, get-entries}
use Rattle.std.specs.FinMap.Entries.{below_all, find, is_sorted}
use Rattle.aide_agreement.specs.Account.{Pair, is_as_old, is_as_trusted, same_as}
use Rattle.aide_agreement.specs.Happened.{HappenedThere}
use Rattle.aide_agreement.specs.declared.account.SameAs.TheVariants as same
use Rattle.aide_agreement.proofs.HappenedLemmas.{happened_from, happened_means}
use Rattle.aide_agreement.proofs.Laws.{agree_from_meaning, meaning_of_agree}
use Rattle.aide_attr.proofs.WalkLemmas.{bool_cases}
use Rattle.aide_attr.specs.declared.delta.Ignore.{Ignore}
use Rattle.aide_conf.specs.declared.options.Options.{Options}
use Rattle.aide_db.specs.Database.{IsSound}
use Rattle.aide_db.specs.Map.{Database, database_of}
use Rattle.aide_db.specs.declared.limits.Limits.{Limits}
use Rattle.aide_fields.specs.Attributes.{Attributes}
use Rattle.aide_fields.specs.Path.{path_cmp}
use Rattle.aide_fields.proofs.PathLaws.{path_cmp_total, path_cmp-IsAntisymmetric}
use Rattle.aide_left_out.proofs.Laws.{left_out_from, left_out_means}
use Rattle.aide_line_text.specs.declared.account.Account.{Account}
use Rattle.aide_line_text.specs.declared.account.Account.TheVariants.{LeftOut, Old, Trusted}
use Rattle.aide_merge.specs.Asked.{Asked}
use Rattle.aide_line_run.specs.ChangeLines.{Accounts, listed_changes}
use Rattle.aide_merge.specs.Compare.{changes, compared}
use Rattle.aide_merge.specs.Said.{PathChange}
use Rattle.aide_merge.specs.Said.{all_listed, is_in}
use Rattle.aide_merge.proofs.MergeLemmas.{and_first, and_second, get-compared, lt_less, paired}
use Rattle.aide_line_run.specs.LineCounts.{line_counts, status_by}
use Rattle.aide_line_run.specs.Lines.{by_texts, read_of}
use Rattle.aide_line_run.specs.Listed.{ListRead, account_by}
use Rattle.aide_line_laws.specs.ByteValues.{AreBytes}
use Rattle.aide_line_laws.specs.Field.{Field}
use Rattle.aide_line_laws.specs.OverMaps.{AreApart, IsAbout, IsAccount, IsFramed, IsOneOf, LeavesOut, SayAll}
use Rattle.aide_line_laws.specs.OverMaps.{SaysOne, StayedAsOld, differ_beyond, left_out_of}
use Rattle.aide_line_laws.specs.TextFields.{change_fields, fields_of_texts}
use Rattle.aide_line_laws.proofs.FrameLaws.{closing_of_none, opening_of_none}
use Rattle.aide_line_laws.proofs.ReadingLaws.{account_is_read_back, path_is_read_back}
use Rattle.aide_line_laws.proofs.TextLaws.{IsChangeOfBytes, changes_bytes}

-- ---- what accounts for a change

is_stayed : (pair : Pair) → is_as_old pair ≡ true → StayedAsOld pair
is_stayed (Some old, Some new) e = record { old = old; new = new; both = refl; agrees = meaning_of_agree old new e }
is_stayed (Some old, None) e = cc
is_stayed (None, Some new) e = cc
is_stayed (None, None) e = cc

stayed_is : (pair : Pair) → StayedAsOld pair → is_as_old pair ≡ true
stayed_is pair h = ap is_as_old h.both ∙ agree_from_meaning h.old h.new h.agrees

not_stayed : (pair : Pair) → (StayedAsOld pair → ⊥) → is_as_old pair ≡ false
not_stayed pair apart = search (rules, is_stayed)

not_happened : (found trusted : Pair) → (HappenedThere found trusted → ⊥) → is_as_trusted found trusted ≡ false
not_happened found trusted apart = elim (bool_cases (is_as_trusted found trusted)) [
  | inl is ↦ absurd (apart (happened_means found trusted is))
  | inr is ↦ is
]

-- what the tests give: the old entry first, then the trusted machine, then the line of a list
abbrev chosen_by : Bool → Bool → Option ℕ → Option Account
chosen_by old trusted line = account_by (cond old (Some same.Old) (cond trusted (Some same.Trusted) None)) line

is_old : (a b : Bool) (line : Option ℕ) → chosen_by a b line ≡ Some Old → a ≡ true
is_old true b line e = refl
is_old false true line e = cc
is_old false false None e = cc
is_old false false (Some number) e = cc

is_trusted : (a b : Bool) (line : Option ℕ) → chosen_by a b line ≡ Some Trusted → (a ≡ false) × (b ≡ true)
is_trusted true b line e = cc
is_trusted false true line e = (refl, refl)
is_trusted false false None e = cc
is_trusted false false (Some number) e = cc

is_left_out : (a b : Bool) (line : Option ℕ) (number : ℕ) → chosen_by a b line ≡ Some (LeftOut number)
    → (a ≡ false) × (b ≡ false) × (line ≡ Some number)
is_left_out true b line number e = cc
is_left_out false true line number e = cc
is_left_out false false None number e = cc
is_left_out false false (Some other) number e = (refl, refl, cc e)

never_old : (pair : Pair) → is_as_old pair ≡ false → StayedAsOld pair → ⊥
never_old pair e stayed = let f = sym e ∙ stayed_is pair stayed in cc

never_trusted : (found trusted : Pair) → is_as_trusted found trusted ≡ false → HappenedThere found trusted → ⊥
never_trusted found trusted e happened = let f = sym e ∙ happened_from found trusted happened in cc

-- What is said to account for a change does, and is said if it does: an entry, or the line of a list.
pub account_by_is_account : (found trusted : Pair) (line : Option ℕ) (leaves : ℕ → Type 0)
    → ((number : ℕ) → line ≡ Some number → leaves number) → ((number : ℕ) → leaves number → line ≡ Some number)
    → IsAccount found trusted leaves (account_by (same_as found trusted) line)
unfolding same_as
account_by_is_account found trusted line leaves means from =
    let a = is_as_old found in
    let b = is_as_trusted found trusted in
    record {
      old = λ e. is_stayed found (is_old a b line e);
      from_old = λ stayed. rw (stayed_is found stayed) refl;
      trusted = λ e. let h = is_trusted a b line e in (happened_means found trusted h.1, never_old found h.0);
      from_trusted = λ happened apart. rw (not_stayed found apart, happened_from found trusted happened) refl;
      left_out = λ number e. let h = is_left_out a b line number e in
          (means number h.2, never_old found h.0, never_trusted found trusted h.1);
      from_left_out = λ number is apart others.
          rw (not_stayed found apart, not_happened found trusted others, from number is) refl;
    }

-- ---- each change has what both databases have at its path

greater_of : (x y : List ℕ) → T (is_lt (path_cmp x y)) → path_cmp y x ≡ Greater
greater_of x y h = path_cmp_total.antisymm y x ∙ ap ordering_reverse (lt_less _ h)

found_past : (z : PathChange) (es fs : List PathChange) → T (below_all path_cmp z.0 fs)
    → AllByRecursion (λ c. find path_cmp c.0 es ≡ Some c.1) fs
    → AllByRecursion (λ c. find path_cmp c.0 (z ∷ es) ≡ Some c.1) fs
found_past z es [] h p = tt
found_past z es (c ∷ fs) h p = (
  ap (λ r. cond (is_eq r) (Some z.1) (find path_cmp c.0 es)) (greater_of z.0 c.0 (and_first _ _ h)) ∙ p.0,
  found_past z es fs (and_second _ _ h) p.1,
)

all_found : (es : List PathChange) → T (is_sorted path_cmp es) → AllByRecursion (λ c. find path_cmp c.0 es ≡ Some c.1) es
all_found [] h = tt
all_found (e ∷ es) h = (
  ap (λ r. cond (is_eq r) (Some e.1) (find path_cmp e.0 es)) (tied_itself path_cmp_total e.0),
  found_past e es es (and_first _ _ h) (all_found es (and_second _ _ h)),
)

is_pair : (a b : Option Attributes) (s : Pair) → paired a b ≡ Some s → s ≡ (a, b)
is_pair None None s e = cc
is_pair None (Some y) s e = cc
is_pair (Some x) b s e = cc

is_paired : (ignore : Ignore) (a b : Option Attributes) → differ_beyond ignore (a, b) ≡ true → paired a b ≡ Some (a, b)
is_paired ignore None None e = cc
is_paired ignore None (Some y) e = refl
is_paired ignore (Some x) b e = refl

tied : (r : Ordering) → is_eq r ≡ true → r ≡ Equal
tied Less e = cc
tied Equal e = refl
tied Greater e = cc

-- ---- which paths have a line

listed_is : (options : Options) (path : List ℕ) (pair : Pair)
    → is_in options all_listed (path, pair) ≡ differ_beyond options.ignore pair
listed_is options path (None, None) = refl
listed_is options path (None, Some new) = refl
listed_is options path (Some old, None) = refl
listed_is options path (Some old, Some new) = refl

module _ (options : Options) (old new : Database) (there : List ℕ → Pair) (leaves : LeavesOut) (accounts : Accounts)
    (right : (change : PathChange) → IsAccount change.1 (there change.0) (leaves change.0 change.1) (accounts change)) where
  -- the change has what both databases have at its path, which is of bytes
  abbrev IsTrue : PathChange → Type 0
  IsTrue change = AreBytes change.0 × (change.1 ≡ (get old change.0, get new change.0))

  abbrev line : PathChange → List Field
  line change = change_fields options accounts change

  abbrev lines_of : List PathChange → List (List Field)
  lines_of all = map line (listed_changes options all)

  about : (change : PathChange) → IsTrue change → IsAbout change.0 (line change)
  about change h = path_is_read_back options accounts change h.0

  says : (change : PathChange) → IsTrue change → is_in options all_listed change ≡ true
      → SaysOne options.ignore old new there leaves (line change)
  says change h e = record {
    path = change.0;
    about = about change h;
    differs = ap (differ_beyond options.ignore) (sym h.1) ∙ sym (listed_is options change.0 change.1) ∙ e;
    account = accounts change;
    said = account_is_read_back options accounts change;
    right = subst (λ pair. IsAccount pair (there change.0) (leaves change.0 pair) (accounts change)) h.1 (right change);
  }

  says_each : (all : List PathChange) → AllByRecursion IsTrue all → (fields : List Field) → IsOneOf fields (lines_of all)
      → SaysOne options.ignore old new there leaves fields
  says_each [] h fields is = absurd is
  says_each (change ∷ all) h fields is =
      elim (is_in options all_listed change) as (λ b. is_in options all_listed change ≡ b
      → IsOneOf fields (map line (if b then change ∷ listed_changes options all else listed_changes options all))
      → SaysOne options.ignore old new there leaves fields) [
        | true ↦ λ e found. elim found [
          | inl one ↦ subst (SaysOne options.ignore old new there leaves) (sym one) (says change h.0 e)
          | inr rest ↦ says_each all h.1 fields rest
        ]
        | false ↦ λ e rest. says_each all h.1 fields rest
      ] refl is

  later : (change : PathChange) (all : List PathChange) (fields : List Field) → IsOneOf fields (lines_of all)
      → IsOneOf fields (lines_of (change ∷ all))
  later change all fields is = search (rules, map, line)

  at_once : (change : PathChange) (all : List PathChange) → is_in options all_listed change ≡ true
      → IsOneOf (line change) (lines_of (change ∷ all))
  at_once change all e = rw e (inl refl)

  abbrev HasLine : List ℕ → List PathChange → Type 0
  HasLine path all = (fields : List Field) × IsOneOf fields (lines_of all) × IsAbout path fields

  has_first : (change : PathChange) (all : List PathChange) → IsTrue change → (path : List ℕ) → path ≡ change.0
      → differ_beyond options.ignore change.1 ≡ true → HasLine path (change ∷ all)
  has_first change all h path same d =
      (line change, at_once change all (listed_is options change.0 change.1 ∙ d), about change h ∙ ap (λ p. Some p) (sym same))

  has_line : (all : List PathChange) → AllByRecursion IsTrue all → (path : List ℕ) (pair : Pair)
      → find path_cmp path all ≡ Some pair → differ_beyond options.ignore pair ≡ true → HasLine path all
  has_line [] h path pair e d = cc
  has_line (change ∷ all) h path pair e d =
      elim (eq_by_cmp path_cmp path change.0) as (λ b. eq_by_cmp path_cmp path change.0 ≡ b
      → cond b (Some change.1) (find path_cmp path all) ≡ Some pair → HasLine path (change ∷ all)) [
        | true ↦ λ same is. has_first change all h.0 path
            (path_cmp-IsAntisymmetric path change.0 (tied (path_cmp path change.0) same))
            (ap (differ_beyond options.ignore) (some_same change.1 pair is) ∙ d)
        | false ↦ λ other is. let found = has_line all h.1 path pair is d in
            (found.0, later change all found.0 found.1, found.2)
      ] refl e
    where
      some_same : (x y : Pair) → Some x ≡ Some y → x ≡ y
      some_same x y e = cc

  unlike : (key : List ℕ) (change : PathChange) → T (is_lt (path_cmp key change.0)) → IsTrue change
      → IsAbout key (line change) → ⊥
  unlike key change less h about_key =
      let same = sym about_key ∙ about change h in
      let is = sym (lt_less _ less) ∙ ap (path_cmp key) (sym (one_text key change.0 same)) ∙ tied_itself path_cmp_total key in cc
    where
      one_text : (x y : List ℕ) → Some x ≡ Some y → x ≡ y
      one_text x y e = cc

  no_later : (key : List ℕ) (all : List PathChange) → T (below_all path_cmp key all) → AllByRecursion IsTrue all
      → (other : List Field) → IsOneOf other (lines_of all) → IsAbout key other → ⊥
  no_later key [] below h other is about_key = is
  no_later key (change ∷ all) below h other is about_key =
      elim (is_in options all_listed change) as (λ b. IsOneOf other
      (map line (if b then change ∷ listed_changes options all else listed_changes options all)) → ⊥) [
        | true ↦ λ found. elim found [
          | inl one ↦ unlike key change (and_first _ _ below) h.0 (subst (IsAbout key) one about_key)
          | inr rest ↦ no_later key all (and_second _ _ below) h.1 other rest about_key
        ]
        | false ↦ λ rest. no_later key all (and_second _ _ below) h.1 other rest about_key
      ] is

  are_apart : (all : List PathChange) → T (is_sorted path_cmp all) → AllByRecursion IsTrue all → AreApart (lines_of all)
  are_apart [] sorted h = tt
  are_apart (change ∷ all) sorted h =
      elim (is_in options all_listed change) as (λ b. AreApart
      (map line (if b then change ∷ listed_changes options all else listed_changes options all))) [
        | true ↦ (
          λ other is path about_line about_other. no_later change.0 all (and_first _ _ sorted) h.1 other is
              (about_other ∙ sym about_line ∙ about change h.0),
          are_apart all (and_second _ _ sorted) h.1,
        )
        | false ↦ are_apart all (and_second _ _ sorted) h.1
      ]

  all_true : (all : List PathChange) → AllByRecursion IsChangeOfBytes all
      → AllByRecursion (λ c. find path_cmp c.0 (changes old new) ≡ Some c.1) all → AllByRecursion IsTrue all
  all_true [] h k = tt
  all_true (change ∷ all) h k = (
    (
      h.0.0,
      is_pair (get old change.0) (get new change.0) change.1
          (sym (get-compared path_cmp path_cmp_total old new change.0) ∙ get-entries (compared old new) change.0 ∙ k.0),
    ),
    all_true all h.1 k.1,
  )

  -- The lines of the changes of two databases say all: a path has a line exactly if the databases differ there beyond what
  -- the options ignore, only one, and it says what accounts for the change.
  pub lines_say_all : AllByRecursion IsChangeOfBytes (changes old new)
      → SayAll options.ignore old new there leaves (lines_of (changes old new))
  lines_say_all bytes =
      let sorted = entries_sorted (compared old new) in
      let true_ones = all_true (changes old new) bytes (all_found (changes old new) sorted) in record {
        each = says_each (changes old new) true_ones;
        all = λ path d. has_line (changes old new) true_ones path (get old path, get new path)
            (sym (get-entries (compared old new) path) ∙ get-compared path_cmp path_cmp_total old new path
            ∙ is_paired options.ignore (get old path) (get new path) d) d;
        apart = are_apart (changes old new) sorted true_ones;
      }

-- ---- texts

-- What is said with a trusted pair and a list to account for a change does, and is said if it does.
pub by_texts_is_account : (list : ListRead) (old new trusted_old trusted_new : List ℕ) (change : PathChange)
    → IsAccount change.1 (get (database_of trusted_old) change.0, get (database_of trusted_new) change.0)
    (left_out_of list old new change.0 change.1) (by_texts list old new trusted_old trusted_new change)
by_texts_is_account list old new trusted_old trusted_new change =
    search (rules, account_by_is_account, left_out_means, left_out_from)

-- The lines over four texts, of which the first two are sound and of bytes, say all by what the trusted texts have and by
-- what the list leaves out.
pub lines_of_texts_say_all : (limits : Limits) (list : ListRead) (wish trusted : Asked) (old new trusted_old trusted_new : List ℕ)
    → IsSound limits old → IsSound limits new → AreBytes old → AreBytes new
    → (lines : List (List Field)) × IsFramed lines (fields_of_texts list wish trusted old new trusted_old trusted_new)
    × SayAll wish.options.ignore (database_of old) (database_of new)
    (λ path. (get (database_of trusted_old) path, get (database_of trusted_new) path)) (left_out_of list old new) lines
lines_of_texts_say_all limits list wish trusted old new trusted_old trusted_new old_sound new_sound old_bytes new_bytes =
    let counts =
    line_counts wish.options (by_texts list old new trusted_old trusted_new) (database_of old) (database_of new) in (
      _,
      record {
        first = _;
        last = _;
        parts = refl;
        is_first = refl;
        is_last = refl;
        first_of_none = opening_of_none wish.old_path wish.new_path trusted.old_path trusted.new_path;
        last_of_none = closing_of_none (read_of old) (read_of new) (read_of trusted_old) (read_of trusted_new) list.digest counts
            (status_by counts);
      },
      lines_say_all wish.options (database_of old) (database_of new)
          (λ path. (get (database_of trusted_old) path, get (database_of trusted_new) path)) (left_out_of list old new)
          (by_texts list old new trusted_old trusted_new) (by_texts_is_account list old new trusted_old trusted_new)
          (changes_bytes limits old new old_sound new_sound old_bytes new_bytes),
    )
