-- The line of one change, and the lines of all.
use Rattle.std.proofs.Common.{◌≡◌, ◌∙◌, Bool, true, false, if◌then◌else◌, List, [], ◌∷◌, sym, ap}
use Rattle.std.specs.List.{flat_map}
use Rattle.std.proofs.lemmas.List.{append-nil}
use Rattle.aide_conf.specs.declared.options.Options.{Options}
use Rattle.aide_line_run.specs.ChangeLines.{Accounts, change_line, change_lines, listed_line}
use Rattle.aide_merge.specs.Said.{PathChange}
use Rattle.aide_merge.specs.Said.{all_listed, is_in}
use Rattle.aide_merge.proofs.PassingLemmas.{all_passing}

module _ (options : Options) (account : Accounts) where
  pub line_of_one : (change : PathChange) → is_in options all_listed change ≡ true
      → change_line options account change ≡ listed_line options account change
  unfolding listed_line
  line_of_one change h = sym (ap (λ (b : Bool). if b then change_line options account change else []) h)

  pub line_of_none : (change : PathChange) → is_in options all_listed change ≡ false
      → [] ≡ listed_line options account change
  unfolding listed_line
  line_of_none change h = sym (ap (λ (b : Bool). if b then change_line options account change else []) h)

  each_line : (changes : List PathChange)
      → flat_map (listed_line options account) changes ≡ change_lines options account changes
  unfolding listed_line change_lines
  each_line changes = all_passing (change_line options account) (is_in options all_listed) changes

  pub lines_one : (change : PathChange) → listed_line options account change ≡ change_lines options account (change ∷ [])
  lines_one change = sym (append-nil (listed_line options account change)) ∙ each_line (change ∷ [])

  pub lines_none : [] ≡ change_lines options account []
  lines_none = each_line []
