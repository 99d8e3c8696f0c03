-- What a reader gets back from the line of a change is the change: its path, its kind, what accounts for it, and both entries.
use Rattle.std.proofs.Common.{◌≡◌, ◌∷◌, ◌++◌, ◌∙◌, Bool, List, None, Option, Some, ap, false, refl, rules, true, ℕ}
use Rattle.std.specs.Prelude.{codes, option_map, option_and_then}
use Rattle.std.specs.Result.{result_ok}
use Rattle.std.specs.Str.{bytes_eq}
use Rattle.std.proofs.lemmas.Bool.{cases_Bool}
use Rattle.hex.specs.Hex.{encode_lower}
use Rattle.hex.proofs.HexLemmas.{decode_of-encode_lower}
use Rattle.json.specs.Json.{Json, object, string}
use Rattle.aide_agreement.specs.Account.{Pair}
use Rattle.aide_attr.specs.declared.attr.Attr.{Attr}
use Rattle.aide_conf.specs.declared.options.Options.{Options}
use Rattle.aide_fields.specs.Attributes.{Attributes}
use Rattle.aide_agreement.specs.Kind.{kind_word, type_at}
use Rattle.aide_json.specs.Value.{Member, Value, member_if_any, text_member}
use Rattle.aide_json.specs.Value as written
use Rattle.aide_line_text.specs.Attribute.{attribute_members}
use Rattle.aide_line_text.specs.Entry.{account_member, entry_member, type_member}
use Rattle.aide_line_text.specs.declared.account.Account.{Account}
use Rattle.aide_line_text.specs.declared.account.Account.TheVariants.{LeftOut, Old, Trusted}
use Rattle.aide_line_run.specs.ChangeLines.{Accounts, widest}
use Rattle.aide_merge.specs.Said.{PathChange, letters_of, shows_at}
use Rattle.aide_line_laws.specs.ByteValues.{AreBytes}
use Rattle.aide_line_laws.specs.Field.{Field, fields_of, json_of, members_of}
use Rattle.aide_line_laws.specs.TextFields.{change_fields}
use Rattle.aide_line_laws.specs.Reading.{SaysAccount, bytes_of, line_number, same_word, text_of, text_under, value_under}
use Rattle.aide_line_laws.proofs.Base64.{byte_at}
use Rattle.aide_line_laws.proofs.Printed.{in_order}

-- behind a text, whatever it is, the rest is read
pub past_text : (name own text : List ℕ) (more : List Member) → bytes_eq own name ≡ false
    → bytes_eq (own ++ codes "_hex") name ≡ false
    → value_under name (fields_of (text_member own text ∷ more)) ≡ value_under name (fields_of more)
past_text name own text more e f = search (rules, cases_Bool)

-- behind what may not be there the rest is read
past_any : {X : Type 0} (name : List ℕ) (own : X → Member) (found : Option X) (more : List Member)
    → ((x : X) → bytes_eq (own x).0 name ≡ false)
    → value_under name (fields_of (member_if_any own found ++ more)) ≡ value_under name (fields_of more)
past_any name own None more e = refl
past_any name own (Some x) more e = rw (e x) refl

nothing_any : {X : Type 0} (name : List ℕ) (own : X → Member) (found : Option X) → ((x : X) → bytes_eq (own x).0 name ≡ false)
    → value_under name (fields_of (member_if_any own found)) ≡ None
nothing_any name own None e = refl
nothing_any name own (Some x) e = rw (e x) refl

under_any : {X : Type 0} (name : List ℕ) (of : X → Value) (found : Option X) (more : List Member)
    → bytes_eq name name ≡ true → value_under name (fields_of more) ≡ None
    → value_under name (fields_of (member_if_any (λ x. (name, of x)) found ++ more)) ≡ option_map (λ x. json_of (of x)) found
under_any name of None more same e = e
under_any name of (Some x) more same e = rw same refl

last_any : {X : Type 0} (name : List ℕ) (of : X → Value) (found : Option X) → bytes_eq name name ≡ true
    → value_under name (fields_of (member_if_any (λ x. (name, of x)) found)) ≡ option_map (λ x. json_of (of x)) found
last_any name of None same = refl
last_any name of (Some x) same = rw same refl

-- ---- what accounts for a change

other_account : (name : List ℕ) → bytes_eq (codes "same_as") name ≡ false → bytes_eq (codes "left_out") name ≡ false
    → (account : Account) → bytes_eq (account_member account).0 name ≡ false
other_account name e f Old = e
other_account name e f Trusted = e
other_account name e f (LeftOut number) = f

under_account : (name : List ℕ) (json : Account → Option Json) (found : Option Account) (more : List Member)
    → value_under name (fields_of more) ≡ None
    → ((account : Account) → value_under name (fields_of (account_member account ∷ more)) ≡ json account)
    → value_under name (fields_of (member_if_any account_member found ++ more)) ≡ option_and_then json found
under_account name json None more none h = none
under_account name json (Some account) more none h = h account

word_of : (more : List Member) → value_under (codes "same_as") (fields_of more) ≡ None → (account : Account)
    → value_under (codes "same_as") (fields_of (account_member account ∷ more)) ≡ same_word account
word_of more none Old = refl
word_of more none Trusted = refl
word_of more none (LeftOut number) = none

number_of : (more : List Member) → value_under (codes "left_out") (fields_of more) ≡ None → (account : Account)
    → value_under (codes "left_out") (fields_of (account_member account ∷ more)) ≡ line_number account
number_of more none Old = none
number_of more none Trusted = none
number_of more none (LeftOut number) = refl

-- ---- the parts behind the summary string

-- what is read of an entry
abbrev entry_json : (shows : Attr → Bool) → Attributes → Json
entry_json shows entry = object (members_of (fields_of (attribute_members shows entry)))

module _ (account : Option Account) (shows : Attr → Bool) (found : Pair) where
  abbrev sides : List Member
  sides = member_if_any (entry_member (codes "old") shows) found.0 ++ member_if_any (entry_member (codes "new") shows) found.1

  abbrev parts : List Member
  parts = member_if_any account_member account ++ (member_if_any type_member (type_at found) ++ sides)

  nothing_in_sides : (name : List ℕ) → bytes_eq (codes "old") name ≡ false → bytes_eq (codes "new") name ≡ false
      → value_under name (fields_of sides) ≡ None
  nothing_in_sides name e f =
      past_any name (entry_member (codes "old") shows) found.0 (member_if_any (entry_member (codes "new") shows) found.1) (λ x. e)
      ∙ nothing_any name (entry_member (codes "new") shows) found.1 (λ x. f)

  nothing_behind : (name : List ℕ) → bytes_eq (codes "type") name ≡ false → bytes_eq (codes "old") name ≡ false
      → bytes_eq (codes "new") name ≡ false → value_under name (fields_of (member_if_any type_member (type_at found) ++ sides)) ≡ None
  nothing_behind name f g h = past_any name type_member (type_at found) sides (λ x. f) ∙ nothing_in_sides name g h

  nothing_in_parts : (name : List ℕ) → bytes_eq (codes "same_as") name ≡ false → bytes_eq (codes "left_out") name ≡ false
      → bytes_eq (codes "type") name ≡ false → bytes_eq (codes "old") name ≡ false → bytes_eq (codes "new") name ≡ false
      → value_under name (fields_of parts) ≡ None
  nothing_in_parts name d e f g h =
      past_any name account_member account (member_if_any type_member (type_at found) ++ sides) (other_account name d e)
      ∙ nothing_behind name f g h

  account_in_parts : SaysAccount account (fields_of parts)
  account_in_parts = search (rules, nothing_behind, under_account, word_of, number_of)

  behind_account : (name : List ℕ) → bytes_eq (codes "same_as") name ≡ false → bytes_eq (codes "left_out") name ≡ false
      → bytes_eq (codes "type") name ≡ false → value_under name (fields_of parts) ≡ value_under name (fields_of sides)
  behind_account name d e f =
      past_any name account_member account (member_if_any type_member (type_at found) ++ sides) (other_account name d e)
      ∙ past_any name type_member (type_at found) sides (λ x. f)

  old_in_parts : value_under (codes "old") (fields_of parts) ≡ option_map (entry_json shows) found.0
  old_in_parts =
      behind_account (codes "old") refl refl refl
      ∙ under_any (codes "old") (λ entry. written.object (written.members_of (attribute_members shows entry))) found.0
      (member_if_any (entry_member (codes "new") shows) found.1) refl
      (nothing_any (codes "old") (entry_member (codes "new") shows) found.1 (λ x. refl))
      ∙ (λ i. option_map (λ entry. object (in_order (attribute_members shows entry) i)) found.0)

  new_in_parts : value_under (codes "new") (fields_of parts) ≡ option_map (entry_json shows) found.1
  new_in_parts =
      behind_account (codes "new") refl refl refl
      ∙ past_any (codes "new") (entry_member (codes "old") shows) found.0 (member_if_any (entry_member (codes "new") shows) found.1)
      (λ x. refl)
      ∙ last_any (codes "new") (λ entry. written.object (written.members_of (attribute_members shows entry))) found.1 refl
      ∙ (λ i. option_map (λ entry. object (in_order (attribute_members shows entry) i)) found.1)

-- ---- the laws

pub read_in_base_16 : (bytes : List ℕ) → AreBytes bytes → bytes_of (string (encode_lower bytes)) ≡ Some bytes
read_in_base_16 bytes h = ap result_ok (decode_of-encode_lower bytes (λ i. byte_at bytes i h))

-- the text of a string, or else the bytes of the other one
abbrev pub chosen : Option Json → Option Json → Option (List ℕ)
chosen text hex = elim text [ Some json ↦ text_of json | None ↦ option_and_then bytes_of hex ]

own_name : (name own : List ℕ) (json : Json) (fields : List Field) → bytes_eq own name ≡ true
    → value_under name ((own, json) ∷ fields) ≡ Some json
own_name name own json fields e = rw e refl

pub other_name : (name own : List ℕ) (json : Json) (fields : List Field) → bytes_eq own name ≡ false
    → value_under name ((own, json) ∷ fields) ≡ value_under name fields
other_name name own json fields e = rw e refl

-- what is under its name is the text, in base 16 if it is not UTF-8
pub text_is_read : (name text : List ℕ) (more : List Member) → AreBytes text → bytes_eq name name ≡ true
    → bytes_eq (name ++ codes "_hex") name ≡ false → bytes_eq (name ++ codes "_hex") (name ++ codes "_hex") ≡ true
    → value_under name (fields_of more) ≡ None → text_under name (fields_of (text_member name text ∷ more)) ≡ Some text
text_is_read name text more bytes e f g none =
    search (rules, cases_Bool, chosen, own_name, other_name, read_in_base_16)

-- What is under "path" is the path of the change.
pub path_is_read_back : (options : Options) (account : Accounts) (change : PathChange) → AreBytes change.0
    → text_under (codes "path") (change_fields options account change) ≡ Some change.0
path_is_read_back options account change bytes =
    let shows = shows_at (widest options) change.1 in
    text_is_read (codes "path") change.0 (parts (account change) shows change.1) bytes refl refl refl
    (nothing_in_parts (account change) shows change.1 (codes "path") refl refl refl refl refl)

-- What is under "kind" is the word for what became of it.
pub kind_is_read_back : (options : Options) (account : Accounts) (change : PathChange)
    → text_under (codes "kind") (change_fields options account change) ≡ Some (kind_word change.1)
kind_is_read_back options account change = refl

-- What is under "summary" is its summary string.
pub summary_is_read_back : (options : Options) (account : Accounts) (change : PathChange)
    → text_under (codes "summary") (change_fields options account change) ≡ Some (letters_of options.ignore change.1)
summary_is_read_back options account change = search (rules, chosen, past_text, parts)

-- What accounts for it is there: an entry by its word, the line of a list by its number, or nothing.
pub account_is_read_back : (options : Options) (account : Accounts) (change : PathChange)
    → SaysAccount (account change) (change_fields options account change)
account_is_read_back options account change =
    let behind = parts (account change) (shows_at (widest options) change.1) change.1 in
    let said = account_in_parts (account change) (shows_at (widest options) change.1) change.1 in
    record {
      same_as = past_text (codes "same_as") (codes "path") change.0 behind refl refl ∙ said.same_as;
      left_out = past_text (codes "left_out") (codes "path") change.0 behind refl refl ∙ said.left_out;
    }

-- Under "old" are the attributes of the old entry that pass, and nothing if there is none.
pub old_is_read_back : (options : Options) (account : Accounts) (change : PathChange)
    → value_under (codes "old") (change_fields options account change)
    ≡ option_map (entry_json (shows_at (widest options) change.1)) change.1.0
old_is_read_back options account change =
    past_text (codes "old") (codes "path") change.0 (parts (account change) (shows_at (widest options) change.1) change.1) refl refl
    ∙ old_in_parts (account change) (shows_at (widest options) change.1) change.1

-- Under "new" are those of the new entry.
pub new_is_read_back : (options : Options) (account : Accounts) (change : PathChange)
    → value_under (codes "new") (change_fields options account change)
    ≡ option_map (entry_json (shows_at (widest options) change.1)) change.1.1
new_is_read_back options account change =
    past_text (codes "new") (codes "path") change.0 (parts (account change) (shows_at (widest options) change.1) change.1) refl refl
    ∙ new_in_parts (account change) (shows_at (widest options) change.1) change.1

-- Nothing is under "end": the line of a change is no last line.
pub no_change_is_the_end : (options : Options) (account : Accounts) (change : PathChange)
    → value_under (codes "end") (change_fields options account change) ≡ None
no_change_is_the_end options account change =
    let shows = shows_at (widest options) change.1 in
    past_text (codes "end") (codes "path") change.0 (parts (account change) shows change.1) refl refl
    ∙ nothing_in_parts (account change) shows change.1 (codes "end") refl refl refl refl refl
