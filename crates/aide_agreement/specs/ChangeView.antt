-- How the code represents what both databases have at a path.
use Rattle.std.specs.Prelude.{Some, None}
use Rattle.aide_agreement.specs.Account.{Pair}
use Rattle.aide_entry.specs.View.{entry_in}
use Rattle.aide_agreement.specs.declared.change.Change.{Change}
use Rattle.aide_agreement.specs.declared.change.Change.TheVariants.{Added, Removed, Common}

-- what the old and the new database have
abbrev pub found_in : Change → Pair
found_in (Added new_view) = (None, Some (entry_in new_view).1)
found_in (Removed old_view) = (Some (entry_in old_view).1, None)
found_in (Common old_view new_view) = (Some (entry_in old_view).1, Some (entry_in new_view).1)
