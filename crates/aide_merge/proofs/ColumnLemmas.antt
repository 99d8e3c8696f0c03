-- The columns of a merge's cursors, once their first entries have been read.
use Rattle.std.specs.Prelude.{◌≡◌, ◌≢◌, ◌⊎◌, ℕ, List, [], ◌∷◌, take, Option, IsSome}
use Rattle.std.proofs.Common.{inl, inr, refl, subst, sym, rules}
use Rattle.aide_db.specs.Answer.{Stands, StandsAtStage, StandsIn}
use Rattle.aide_db.specs.CursorView.{CursorView, to_use}
use Rattle.aide_db.specs.Desk.{columns_of_side, desk_entry, list_of}
use Rattle.aide_db.specs.DeskView.{DeskView}
use Rattle.aide_db.specs.Giving.{columns_of_text}
use Rattle.aide_db.specs.Holds.{HoldsAt}
use Rattle.aide_db.specs.Database.{counted}
use Rattle.aide_db.specs.Stage.{IsStageOf}
use Rattle.aide_db.specs.Told.{bytes_of}
use Rattle.aide_db.specs.declared.side.Side.{Side}
use Rattle.aide_db.specs.declared.side.Side.TheVariants.{Old, New}
use Rattle.aide_db.specs.declared.stage.Stage.{Stage}
use Rattle.aide_db.specs.declared.stage.Stage.TheVariants.{Entries, Ended, Failed}
use Rattle.aide_db.proofs.Giving.{columns_at, lines_after}
use Rattle.aide_fields.specs.Text.{lines}
use Rattle.aide_entry.specs.View.{entry_at}
use Rattle.aide_entry.specs.declared.column.Column.{Column}
use Rattle.aide_merge.specs.Standing.{IsUnfailed}
use Rattle.aide_merge.specs.code.Merging.{IsNotDue, IsReady, StandsAt}
use Rattle.aide_merge.specs.declared.merge.Merge.{Merge}
use Rattle.aide_merge.specs.declared.merge.NextEntry.{NextEntry}
use Rattle.aide_merge.specs.declared.merge.NextEntry.TheVariants.{Due, Here, Ended as AtEnd}

-- an empty list has no entry
pub none_at : (columns : List Column) (list : List ℕ) → list ≡ [] → IsSome (entry_at columns list) → ⊥
none_at columns [] e there = cc
none_at columns (byte ∷ more) e there = cc

-- what a cursor at a stage says of its columns, with an entry on the desk or at the end
stage_columns : {R : Type 0} (stage : Stage) (bytes : R → List ℕ) (c : CursorView R) (list : List ℕ) (held : List Column)
    (text : List ℕ) → c.stage ≡ stage → IsUnfailed stage → HoldsAt stage c.columns list held
    → IsSome (entry_at held list) ⊎ (stage ≡ Ended)
    → StandsAtStage stage bytes c list text → c.columns ≡ columns_of_text text
stage_columns Entries bytes c list held text is unfailed holds there s =
    let w = lines_after c.at_end c.used (to_use bytes c) text s.parts s.ended s.whole in
    columns_at c.used text w.0 c.columns list s.is_open.no_end w.1
    (subst (λ (at : Stage). IsStageOf at c.columns list (counted (lines (take c.used text)))) is s.staged)
stage_columns Ended bytes c list held text is unfailed holds there s = s.2
stage_columns (Failed fault) bytes c list held text is unfailed holds there s = absurd unfailed
stage_columns _ bytes c list held text is unfailed holds there s = search (rules, none_at)

-- a side that is not due has an entry on the desk, or has ended
pub here_or_ended : (there : Type 0) (stage : Stage) (next : NextEntry) → next ≢ Due → (next ≡ Here → there)
    → (next ≡ AtEnd → stage ≡ Ended) → there ⊎ (stage ≡ Ended)
here_or_ended there stage Due due here ended = absurd (due refl)
here_or_ended there stage Here due here ended = inl (here refl)
here_or_ended there stage AtEnd due here ended = inr (ended refl)

cursor_columns : {R : Type 0} (to_come : R → Option (List ℕ)) (c : CursorView R) (d : DeskView) (side : Side) (text : List ℕ)
    → c.side ≡ side → IsUnfailed c.stage → IsSome (desk_entry side d) ⊎ (c.stage ≡ Ended) → Stands to_come c d text
    → c.columns ≡ columns_of_text text
unfolding StandsIn
cursor_columns to_come c d side text at unfailed there s =
    stage_columns c.stage (bytes_of to_come) c (list_of c.side d) (columns_of_side c.side d) text refl unfailed s.2
    (subst (λ (of : Side). IsSome (desk_entry of d) ⊎ (c.stage ≡ Ended)) (sym at) there) s.1

module _ {R : Type 0} (to_come : R → Option (List ℕ)) (m : Merge R) (d : DeskView) (text : List ℕ)
    (ready : IsReady m d) (not_due : IsNotDue m) where
  -- the columns of the old text
  pub old_columns : StandsAt to_come m d Old text → m.old_cursor.columns ≡ columns_of_text text
  old_columns s = cursor_columns to_come m.old_cursor d Old text ready.old_side ready.old_unfailed
      (here_or_ended (IsSome (desk_entry Old d)) m.old_cursor.stage m.old_next not_due.old_not_due ready.old_here ready.old_ended) s

  -- the columns of the new text
  pub new_columns : StandsAt to_come m d New text → m.new_cursor.columns ≡ columns_of_text text
  new_columns s = cursor_columns to_come m.new_cursor d New text ready.new_side ready.new_unfailed
      (here_or_ended (IsSome (desk_entry New d)) m.new_cursor.stage m.new_next not_due.new_not_due ready.new_here ready.new_ended) s
