-- What accounts for a change, by the changes of the trusted pair that are still to come.
use Rattle.std.specs.Prelude.{ℕ, if◌then◌else◌, List, [], ◌∷◌, map, Option, None}
use Rattle.std.specs.List.{flat_map}
use Rattle.std.specs.Ordering.{is_eq, is_lt}
use Rattle.aide_agreement.specs.Account.{Pair, same_as}
use Rattle.aide_line_text.specs.declared.account.Account.{Account}
use Rattle.aide_fields.specs.Path.{path_cmp}
use Rattle.aide_conf.specs.declared.options.Options.{Options}
use Rattle.aide_line_run.specs.ChangeLines.{Accounts, listed_line}
use Rattle.aide_merge.specs.Said.{PathChange}
use Rattle.aide_line_run.specs.Listed.{Leaves, account_by}

-- the changes without those at the beginning whose paths come before this path
abbrev pub seek : List ℕ → List PathChange → List PathChange
seek path [] = []
seek path (c ∷ more) = if is_lt (path_cmp c.0 path) then seek path more else c ∷ more

-- the entries of the first change if it is at the path, otherwise none
abbrev pub found_at : List ℕ → List PathChange → Pair
found_at path [] = (None, None)
found_at path (c ∷ more) = if is_eq (path_cmp c.0 path) then c.1 else (None, None)

-- what accounts for each change, by the changes of the trusted pair and by what a list leaves out
abbrev pub sought_by : Leaves → List PathChange → Accounts
sought_by leaves trusted change =
    account_by (same_as change.1 (found_at change.0 (seek change.0 trusted))) (leaves change)

-- a change, and what accounts for it
abbrev pub Accounted : Type 0
Accounted = PathChange × Option Account

-- each change, and what accounts for it, by the same
abbrev pub all_sought : Leaves → List PathChange → List PathChange → List Accounted
all_sought leaves changes trusted =
    map (λ change. (change, sought_by leaves trusted change)) changes

-- only the changes
abbrev pub changes_of : List Accounted → List PathChange
changes_of accounted = map (λ each. each.0) accounted

-- the line of a change with its account, or the empty text if the report does not list the change
abbrev pub accounted_line : Options → Accounted → List ℕ
accounted_line options each = listed_line options (λ any. each.1) each.0

-- their lines, in their order
abbrev pub accounted_lines : Options → List Accounted → List ℕ
accounted_lines options accounted = flat_map (accounted_line options) accounted
