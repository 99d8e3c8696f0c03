-- Entries that a desk holds alike: they are the same, so their paths tie and nothing differs.
use Rattle.std.specs.Prelude.{◌≡◌, ℕ, List, Option, Some, None, [], ◌∷◌}
use Rattle.std.proofs.Common.{sym, ap, ◌∙◌, rules}
use Rattle.aide_db.specs.Alike.{HoldsAlike}
use Rattle.aide_fields.specs.Attributes.{Attributes, Entry}
use Rattle.aide_entry.specs.View.{entry_at}
use Rattle.aide_db.specs.Desk.{desk_entry}
use Rattle.aide_db.specs.DeskView.{DeskView}
use Rattle.aide_fields.specs.Path.{path_cmp}
use Rattle.aide_db.specs.declared.side.Side.TheVariants.{Old, New}
use Rattle.aide_fields.proofs.PathLaws.{path_cmp_total}
use Rattle.aide_merge.specs.Compare.{Change}
use Rattle.aide_merge.specs.code.ChangeView.{IsAlike}
use Rattle.aide_merge.specs.code.NextEntry.{next_entry}
use Rattle.aide_merge.specs.code.NextPath.{change_by, next_change}
use Rattle.aide_merge.specs.declared.merge.NextEntry.{NextEntry}
use Rattle.aide_merge.specs.declared.merge.NextEntry.TheVariants.{Here}

abbrev entry_or : Entry → Option Entry → Entry
entry_or e None = e
entry_or e (Some shown) = shown

-- the entries of both sides are one
pub same_shown : (d : DeskView) (old new : Entry) → HoldsAlike d → desk_entry Old d ≡ Some old
    → desk_entry New d ≡ Some new → old ≡ new
same_shown d old new (filled, lines, columns) shows_old shows_new =
    ap (entry_or old) (sym shows_old ∙ (λ i. entry_at (columns i) (lines i)) ∙ shows_new)

shown_of_next : (next : NextEntry) (shown : Option Entry) (entry : Entry) → next_entry next shown ≡ Some entry
    → shown ≡ Some entry
shown_of_next Here shown entry e = e
shown_of_next _ shown entry e = cc

-- the next path is that of both sides, with one entry
pub next_of_alike : (d : DeskView) (old_next new_next : NextEntry) (old new : Entry) → HoldsAlike d
    → next_entry old_next (desk_entry Old d) ≡ Some old → next_entry new_next (desk_entry New d) ≡ Some new
    → IsAlike (next_change (next_entry old_next (desk_entry Old d)) (next_entry new_next (desk_entry New d)))
next_of_alike d old_next new_next old new alike shows_old shows_new = search (rules, same_shown, shown_of_next, path_cmp_total)

-- the next path is that of the first of two entries
pub next_of_both : (old new : Entry) {old_shown new_shown : Option Entry} (change : Change (List ℕ) Attributes)
    → old_shown ≡ Some old → new_shown ≡ Some new → change ≡ change_by (path_cmp old.0 new.0) old new
    → next_change old_shown new_shown ≡ change ∷ []
next_of_both old new change shows_old shows_new is =
    (λ i. next_change (shows_old i) (shows_new i)) ∙ ap (λ (c : Change (List ℕ) Attributes). c ∷ []) (sym is)
