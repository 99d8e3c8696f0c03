-- The first and the last of the lines that are written while the databases are read.
use Rattle.std.specs.Prelude.{ℕ, true, List, [], ◌∷◌, ◌++◌, codes}
use Rattle.aide_json.specs.Number.{count}
use Rattle.aide_json.specs.Value.{Member, Value, base16, line, members_of, object, text_member}
use Rattle.aide_json.specs.Value.{truth}
use Rattle.aide_line_text.specs.Ends.{account_members, count_members, skipped_array}
use Rattle.aide_line_text.specs.declared.counts.LineCounts.{LineCounts}

-- what is known of a database at its end: the SHA-256 of its bytes, and the set of the columns that were skipped
pub record ReadFacts : Type 0 where
  pub digest : List ℕ
  pub skipped : ℕ

-- what is known of one database at its end, as an object
abbrev pub read_object : ReadFacts → Value
read_object facts =
    object (members_of ((codes "sha256", base16 facts.digest)
    ∷ (codes "skipped", skipped_array facts.skipped) ∷ []))

-- the members of the first line: the format's number, and the paths of the two databases and of the trusted pair
abbrev pub opening_members : (old_path new_path trusted_old trusted_new : List ℕ) → List Member
opening_members old_path new_path trusted_old trusted_new =
    (codes "format", count 4)
    ∷ text_member (codes "old") old_path
    ∷ text_member (codes "new") new_path
    ∷ text_member (codes "trusted_old") trusted_old
    ∷ text_member (codes "trusted_new") trusted_new ∷ []

-- the first line
unfoldable pub opening_line : (old_path new_path trusted_old trusted_new : List ℕ) → List ℕ
opening_line old_path new_path trusted_old trusted_new =
    line (opening_members old_path new_path trusted_old trusted_new)

-- the SHA-256 of the list of what is left out
abbrev pub list_member : List ℕ → Member
list_member digest = (codes "list", object (members_of ((codes "sha256", base16 digest) ∷ [])))

-- The members of the last line: what was read of all four databases, the numbers of entries and of their accounts, the
-- list, and the exit status.
abbrev pub closing_members : (old new trusted_old trusted_new : ReadFacts)
    → (list : List ℕ) → LineCounts → ℕ
    → List Member
closing_members old new trusted_old trusted_new list counts status =
    (codes "end", truth true)
    ∷ (codes "old", read_object old)
    ∷ (codes "new", read_object new)
    ∷ (codes "trusted_old", read_object trusted_old)
    ∷ (codes "trusted_new", read_object trusted_new)
    ∷ (count_members counts
    ++ (account_members counts
    ++ list_member list ∷ (codes "status", count status) ∷ []))

-- The last line. If it is missing, the lines were cut.
unfoldable pub closing_line : (old new trusted_old trusted_new : ReadFacts)
    → (list : List ℕ) → LineCounts → ℕ
    → List ℕ
closing_line old new trusted_old trusted_new list counts status =
    line (closing_members old new trusted_old trusted_new list counts status)
