-- The changes of two texts of bytes are of bytes, and so their lines are lines of JSON.
use Rattle.std.proofs.Common.{◌/◌, ◌%◌, ◌^◌, ◌<◌, ◌∷◌, ◌++◌, List, None, Some, [], false, if◌then◌else◌, map, rules, suc, true, zero, ℕ}
use Rattle.std.proofs.Common.{slice_index, ◌∙◌, refl, sym, ap, subst, arith, append_assoc, append-nil}
use Rattle.std.specs.Prelude.{drop}
use Rattle.std.specs.declared.cmp.Ordering.TheVariants.{Less, Equal, Greater}
use Rattle.std.specs.FinMap.{entries}
use Rattle.std.specs.Int.{w32, to_be_bytes, bytes_high_first, byte_at}
use Rattle.std.specs.List.{AllByRecursion, filter, flat_map, slice_split}
use Rattle.sha2.specs.Sha256.{sha256, digest_bytes, final_hash, initial_hash_256}
use Rattle.aide_conf.specs.declared.options.Options.{Options}
use Rattle.aide_db.specs.Database.{IsSound}
use Rattle.aide_db.specs.Giving.{before_end, entry_lines, columns_of_text}
use Rattle.aide_db.specs.Map.{database_of, entries_of}
use Rattle.aide_db.specs.declared.limits.Limits.{Limits}
use Rattle.aide_db.proofs.MapLaws.{entries-database_of}
use Rattle.aide_fields.specs.Attributes.{Entry}
use Rattle.aide_entry.specs.Entry.{entry_of}
use Rattle.aide_entry.specs.Lines.{counts, is_end}
use Rattle.aide_fields.specs.Path.{path_cmp}
use Rattle.aide_fields.specs.Text.{lines, is_newline, is_filled, without_empty_last}
use Rattle.aide_entry.specs.declared.column.Column.{Column}
use Rattle.aide_fields.proofs.PathLaws.{path_cmp_total, path_cmp-IsAntisymmetric}
use Rattle.aide_line_run.specs.ChangeLines.{Accounts, change_line, change_lines}
use Rattle.aide_merge.specs.Compare.{changes}
use Rattle.aide_merge.specs.Said.{PathChange}
use Rattle.aide_merge.specs.Said.{all_listed, is_in}
use Rattle.aide_merge.specs.Merged.{merged, weave}
use Rattle.aide_merge.proofs.MergeLemmas.{changes-merged}
use Rattle.aide_line_laws.specs.ByteValues.{AreBytes, AreOfBytes, AreOfBytesIfAny}
use Rattle.aide_line_laws.specs.Field.{Field}
use Rattle.aide_line_laws.specs.JsonLine.{IsJsonLine, AreJsonLines}
use Rattle.aide_line_laws.specs.TextFields.{change_fields, fields_begun, fields_of_lines}
use Rattle.aide_line_laws.proofs.Base64.{both_bytes}
use Rattle.aide_line_laws.proofs.Bytes.{AreAllBytes, split_bytes, filter_keeps, path_bytes, bytes_of_attributes}
use Rattle.aide_line_laws.proofs.Laws.{change_line_is_json}

-- ---- digests

small : (x : ℕ) → x % 256 < 256
small x = omega arith

byte_of : (k n : ℕ) → byte_at k n < 256
byte_of zero n = small n
byte_of (suc k) n = small (n / 256 ^ suc k)

high_first_bytes : (k n : ℕ) → AreBytes (bytes_high_first k n)
high_first_bytes zero n = tt
high_first_bytes (suc k) n = (byte_of k n, high_first_bytes k n)

hash_bytes : (h : List ℕ) (n : ℕ) → AreBytes (digest_bytes h n)
unfolding digest_bytes
hash_bytes h zero = tt
hash_bytes h (suc n) =
    both_bytes (digest_bytes h n) (to_be_bytes w32 (slice_index h n)) (hash_bytes h n)
    (high_first_bytes 4 (slice_index h n))

pub sha256_bytes : (text : List ℕ) → AreBytes (sha256 text)
unfolding sha256
sha256_bytes text = hash_bytes (final_hash initial_hash_256 text) 8

-- ---- entries

drop_keeps : {X : Type 0} (P : X → Type 0) (n : ℕ) (xs : List X) → AllByRecursion P xs → AllByRecursion P (drop n xs)
drop_keeps P zero xs h = h
drop_keeps P (suc n) [] h = tt
drop_keeps P (suc n) (x ∷ xs) h = drop_keeps P n xs h.1

last_bytes : (parts : List (List ℕ)) → AreAllBytes parts → AreAllBytes (without_empty_last parts)
last_bytes [] h = tt
last_bytes (part ∷ []) h = elim (is_filled part) as (λ b. AreAllBytes (if b then part ∷ [] else [])) [
  | true ↦ h
  | false ↦ tt
]
last_bytes (part ∷ next ∷ parts) h = (h.0, last_bytes (next ∷ parts) h.1)

lines_bytes : (text : List ℕ) → AreBytes text → AreAllBytes (lines text)
unfolding lines
lines_bytes text h = last_bytes (slice_split is_newline text) (split_bytes is_newline text h)

before_bytes : (all : List (List ℕ)) → AreAllBytes all → AreAllBytes (before_end all)
before_bytes [] h = tt
before_bytes (line ∷ all) h =
    let more = before_bytes all h.1 in
    elim (is_end line) as (λ b. AreAllBytes (if b then [] else line ∷ before_end all)) [
      | true ↦ tt
      | false ↦ (h.0, more)
    ]

entry_lines_bytes : (text : List ℕ) → AreBytes text → AreAllBytes (entry_lines text)
entry_lines_bytes text h =
    drop_keeps AreBytes 2 _ (filter_keeps AreBytes counts (before_end (lines text)) (before_bytes (lines text) (lines_bytes text h)))

-- an entry of bytes
abbrev IsOfBytes : Entry → Type 0
IsOfBytes entry = AreBytes entry.0 × AreOfBytes entry.1

entries_bytes : (columns : List Column) (all : List (List ℕ)) → AreAllBytes all → AllByRecursion IsOfBytes (map (entry_of columns) all)
entries_bytes columns [] h = tt
entries_bytes columns (line ∷ all) h =
    ((path_bytes columns line h.0, bytes_of_attributes columns line h.0), entries_bytes columns all h.1)

database_bytes : (limits : Limits) (text : List ℕ) → IsSound limits text → AreBytes text
    → AllByRecursion IsOfBytes (entries (database_of text))
database_bytes limits text sound h =
    subst (AllByRecursion IsOfBytes) (sym (entries-database_of limits text sound))
    (entries_bytes (columns_of_text text) (entry_lines text) (entry_lines_bytes text h))

-- ---- changes

abbrev pub IsChangeOfBytes : PathChange → Type 0
IsChangeOfBytes change = AreBytes change.0 × (AreOfBytesIfAny change.1.0 × AreOfBytesIfAny change.1.1)

new_bytes : (news : List Entry) → AllByRecursion IsOfBytes news
    → AllByRecursion IsChangeOfBytes (map (λ y. (y.0, (None, Some y.1))) news)
new_bytes [] h = tt
new_bytes (y ∷ news) h = ((h.0.0, (tt, h.0.1)), new_bytes news h.1)

weave_bytes : (x : Entry) (rest : List Entry → List PathChange) → IsOfBytes x
    → ((ys : List Entry) → AllByRecursion IsOfBytes ys → AllByRecursion IsChangeOfBytes (rest ys))
    → (ys : List Entry) → AllByRecursion IsOfBytes ys → AllByRecursion IsChangeOfBytes (weave path_cmp x rest ys)
weave_bytes x rest good more [] h = ((good.0, (good.1, tt)), more [] tt)
weave_bytes x rest good more (y ∷ ys) h =
    let woven = weave_bytes x rest good more ys h.1 in
    elim (path_cmp x.0 y.0) as (λ r. AllByRecursion IsChangeOfBytes (elim r [
      | Less ↦ (x.0, (Some x.1, None)) ∷ rest (y ∷ ys)
      | Equal ↦ (x.0, (Some x.1, Some y.1)) ∷ rest ys
      | Greater ↦ (y.0, (None, Some y.1)) ∷ weave path_cmp x rest ys
    ])) [
      | Less ↦ ((good.0, (good.1, tt)), more (y ∷ ys) h)
      | Equal ↦ ((good.0, (good.1, h.0.1)), more ys h.1)
      | Greater ↦ ((h.0.0, (tt, h.0.1)), woven)
    ]

merged_bytes : (olds news : List Entry) → AllByRecursion IsOfBytes olds → AllByRecursion IsOfBytes news
    → AllByRecursion IsChangeOfBytes (merged path_cmp olds news)
merged_bytes [] news h k = new_bytes news k
merged_bytes (x ∷ olds) news h k = weave_bytes x (merged path_cmp olds) h.0 (λ ys m. merged_bytes olds ys h.1 m) news k

pub changes_bytes : (limits : Limits) (old new : List ℕ) → IsSound limits old → IsSound limits new → AreBytes old
    → AreBytes new → AllByRecursion IsChangeOfBytes (changes (database_of old) (database_of new))
changes_bytes limits old new old_sound new_sound h k =
    subst (AllByRecursion IsChangeOfBytes)
    (sym (changes-merged path_cmp path_cmp_total path_cmp-IsAntisymmetric (database_of old) (database_of new)))
    (merged_bytes (entries (database_of old)) (entries (database_of new))
    (database_bytes limits old old_sound h) (database_bytes limits new new_sound k))

-- the changes of the entry lines of any two texts
pub begun_bytes : (old new : List ℕ) → AreBytes old → AreBytes new
    → AllByRecursion IsChangeOfBytes (merged path_cmp (entries_of old) (entries_of new))
begun_bytes old new h k = search (rules, merged_bytes, entries_bytes, entry_lines_bytes)

-- ---- lines

-- lines, and other lines behind them
pub lines_both : (text more : List ℕ) (all others : List (List Field)) → AreJsonLines text all → AreJsonLines more others
    → AreJsonLines (text ++ more) (all ++ others)
lines_both text more [] others h k = rw h k
lines_both text more (fields ∷ all) others h k = (
  h.0 ++ more,
  record {
    line = h.1.line;
    is_line = h.1.is_line;
    parts = ap (λ t. t ++ more) h.1.parts ∙ append_assoc h.1.line h.0 more;
  },
  lines_both h.0 more all others h.2 k,
)

pub one_line : (line : List ℕ) (fields : List Field) → IsJsonLine line fields → AreJsonLines line (fields ∷ [])
one_line line fields h = ([], record { line = line; is_line = h; parts = sym (append-nil line) }, refl)

changes_are_json : (options : Options) (account : Accounts) (all : List PathChange) → AllByRecursion IsChangeOfBytes all
    → AreJsonLines (flat_map (change_line options account) all) (map (change_fields options account) all)
changes_are_json options account [] h = refl
changes_are_json options account (change ∷ all) h = (
  flat_map (change_line options account) all,
  record {
    line = change_line options account change;
    is_line = change_line_is_json options account change h.0.0 h.0.1.0 h.0.1.1;
    parts = refl;
  },
  changes_are_json options account all h.1,
)

-- a first line, and those of the changes that have one
pub first_lines_are_json : (options : Options) (account : Accounts) (all : List PathChange) (first : List ℕ)
    (opened : List Field) → AllByRecursion IsChangeOfBytes all → IsJsonLine first opened
    → AreJsonLines (first ++ change_lines options account all) (fields_begun options account opened all)
unfolding change_lines
first_lines_are_json options account all first opened h k =
    let listed = filter (is_in options all_listed) all in (
      flat_map (change_line options account) listed,
      record { line = first; is_line = k; parts = refl },
      changes_are_json options account listed (filter_keeps IsChangeOfBytes (is_in options all_listed) all h),
    )

-- a first line, those of the changes that have one, and the last line
pub all_lines_are_json : (options : Options) (account : Accounts) (all : List PathChange) (first last : List ℕ)
    (opened closed : List Field) → AllByRecursion IsChangeOfBytes all → IsJsonLine first opened → IsJsonLine last closed
    → AreJsonLines ((first ++ change_lines options account all) ++ last) (fields_of_lines options account opened closed all)
all_lines_are_json options account all first last opened closed h k l =
    lines_both (first ++ change_lines options account all) last (fields_begun options account opened all) (closed ∷ [])
    (first_lines_are_json options account all first opened h k) (one_line last closed l)
