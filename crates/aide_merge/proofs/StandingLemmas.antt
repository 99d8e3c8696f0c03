-- From the lines that a cursor answers to the entries of a database.
use Rattle.std.specs.Prelude.{IsSome, [], ◌∷◌, ◌++◌, map, true}
use Rattle.std.proofs.Common.{refl, sym, ap, subst, ◌∙◌, ◌≡◌, ℕ, List, Option, rules}
use Rattle.aide_db.specs.Answer.{StandsFor, Stands, StandsAtStage, StandsIn}
use Rattle.aide_db.specs.CursorView.{CursorView}
use Rattle.aide_entry.specs.View.{entry_at}
use Rattle.aide_db.specs.Desk.{list_of, columns_of_side, desk_entry}
use Rattle.aide_db.specs.DeskView.{DeskView}
use Rattle.aide_entry.specs.Entry.{entry_of}
use Rattle.aide_db.specs.Kept.{IsKept}
use Rattle.aide_fields.specs.Text.{is_filled}
use Rattle.aide_entry.specs.declared.column.Column.{Column}
use Rattle.aide_db.specs.declared.side.Side.{Side}
use Rattle.aide_merge.specs.code.NextEntry.{given}
use Rattle.aide_db.specs.declared.stage.Stage.{Stage}
use Rattle.aide_db.specs.declared.stage.Stage.TheVariants.{Start, Entries, Ended as AtEnd}
use Rattle.aide_merge.specs.Standing.{IsUnfailed}
use Rattle.aide_db.specs.Database.{IsSound}
use Rattle.aide_db.specs.Giving.{columns_of_text}
use Rattle.aide_db.specs.Told.{bytes_of}

-- the entry on the desk is the first one of those that were still to give
pub given_entry : (shown columns : List Column) (list : List ℕ) (before after : List (List ℕ)) → is_filled list ≡ true
    → shown ≡ columns
    → before ≡ list ∷ after
    → given (entry_at shown list) ++ map (entry_of columns) after ≡ map (entry_of columns) before
given_entry shown columns [] before after filled same is = cc
given_entry shown columns (byte ∷ bytes) before after filled same is =
    ap (λ cs. entry_of cs (byte ∷ bytes) ∷ map (entry_of columns) after) same ∙ sym (ap (map (entry_of columns)) is)

pub shown_entry : (columns : List Column) (list : List ℕ) → is_filled list ≡ true → IsSome (entry_at columns list)
shown_entry columns [] filled = cc
shown_entry columns (byte ∷ bytes) filled = refl

-- a side that is as before shows the entry that it showed
pub kept_entry : (side : Side) (d e : DeskView) → IsKept side d e → desk_entry side e ≡ desk_entry side d
kept_entry side d e kept = (λ i. entry_at (kept.1 i) (kept.0 i))

-- the state of a cursor whose side is as before
pub stands_across : {R : Type 0} (to_come : R → Option (List ℕ)) (c : CursorView R) (side : Side) (d e : DeskView) (text : List ℕ)
    → c.side ≡ side → IsKept side d e → Stands to_come c d text → Stands to_come c e text
stands_across to_come c side d e text is kept stands = search rules

pub stands_at : {R : Type 0} (to_come : R → Option (List ℕ)) (c : CursorView R) (side : Side) (d : DeskView) (text : List ℕ)
    → c.side ≡ side → StandsFor to_come c (list_of side d) (columns_of_side side d) text → Stands to_come c d text
stands_at to_come c side d text is stands =
    subst (λ s. StandsFor to_come c (list_of s d) (columns_of_side s d) text) (sym is) stands

pub unfailed_start : (stage : Stage) → stage ≡ Start → IsUnfailed stage
unfailed_start stage is = subst IsUnfailed (sym is) tt

pub unfailed_entries : (stage : Stage) → stage ≡ Entries → IsUnfailed stage
unfailed_entries stage is = subst IsUnfailed (sym is) tt

-- a cursor at its end
pub ended_at : {R : Type 0} (to_come : R → Option (List ℕ)) (c : CursorView R) (d : DeskView) (text : List ℕ)
    → c.stage ≡ AtEnd → Stands to_come c d text → IsSound c.limits text × (c.columns ≡ columns_of_text text)
unfolding StandsIn
ended_at to_come c d text ended s =
    let is = subst (λ stage. StandsAtStage stage (bytes_of to_come) c (list_of c.side d) text) ended s.1 in (is.0, is.2)
