-- What a cursor that has not failed has still to give of a text, by what comes before the first fault of the text.
use Rattle.std.specs.Prelude.{◌≡◌, ◌≢◌, ◌≤◌, ◌⊎◌, ℕ, Bool, List, [], ◌++◌, length}
use Rattle.std.specs.Prelude.{take, drop, Option, IsSome}
use Rattle.std.proofs.Common.{◌∙◌, ap, append-nil, append_assoc, inl, inr, refl, subst, sym}
use Rattle.std.proofs.lemmas.List.{append_cancel_right}
use Rattle.aide_fields.specs.Attributes.{Entry}
use Rattle.aide_fields.specs.Path.{path_cmp}
use Rattle.aide_fields.specs.Text.{lines}
use Rattle.aide_entry.specs.View.{entry_at}
use Rattle.aide_entry.specs.declared.column.Column.{Column}
use Rattle.aide_db.specs.Answer.{Stands, StandsAtStage, StandsIn}
use Rattle.aide_db.specs.CursorView.{CursorView}
use Rattle.aide_db.specs.Database.{counted}
use Rattle.aide_db.specs.Desk.{columns_of_side, desk_entry, list_of}
use Rattle.aide_db.specs.DeskView.{DeskView}
use Rattle.aide_db.specs.Giving.{columns_of_text}
use Rattle.aide_db.specs.Holds.{HoldsAt}
use Rattle.aide_db.specs.Stage.{IsStageOf, entries_in}
use Rattle.aide_db.specs.Standing.{Amid, IsAmid}
use Rattle.aide_db.specs.Told.{bytes_of}
use Rattle.aide_db.specs.declared.limits.Limits.{Limits}
use Rattle.aide_db.specs.declared.reel.Reel.{Ghosts as Reels}
use Rattle.aide_db.specs.declared.side.Side.{Side}
use Rattle.aide_db.specs.declared.side.Side.TheVariants.{Old, New}
use Rattle.aide_db.specs.declared.stage.Stage.{Stage}
use Rattle.aide_db.specs.declared.stage.Stage.TheVariants.{Start, Begun, Entries, Ended, Failed}
use Rattle.aide_db.proofs.Giving.{columns_at, lines_after}
use Rattle.aide_db.proofs.LinesLemmas.{lines_behind}
use Rattle.aide_db.proofs.MapLaws.{first_fault_unsound}
use Rattle.aide_merge.specs.Merged.{merged}
use Rattle.aide_merge.specs.Standing.{IsUnfailed, rest_of}
use Rattle.aide_merge.specs.code.MergeCalls.{HasRead, KeepsMerge}
use Rattle.aide_merge.specs.code.Merging.{IsNotDue, IsReady, IsWithinLimits, StandsAt, limits_at, remaining}
use Rattle.aide_merge.specs.declared.merge.Merge.{Merge}
use Rattle.aide_merge.specs.code.NextEntry.{ahead, given}
use Rattle.aide_merge.specs.declared.merge.NextEntry.{NextEntry}
use Rattle.aide_merge.specs.declared.merge.NextEntry.TheVariants.{Due, Here, Ended as AtEnd}
use Rattle.aide_merge.proofs.ColumnLemmas.{here_or_ended, new_columns, none_at, old_columns}
use Rattle.aide_line_run.specs.BeforeFault.{EndsAtFault, IsBeforeFault}
use Rattle.aide_line_run.specs.Sought.{seek}
use Rattle.aide_line_run.specs.code.Calls.{IsSought}
use Rattle.aide_line_run.specs.code.Over.{ReadsUpTo}
use Rattle.aide_line_run.proofs.FrontLines.{amid_front, entries_at, fewer_entries, head_more, head_of, heads_cut, same_used}

-- ---- what it has still to give

-- the entries that do not come before the first fault
abbrev behind : (text front : List ℕ) → List Entry
behind text front = entries_at (head_of text) (length (entries_in (head_of front)))

pub front_lines : {limits : Limits} {text front : List ℕ} → EndsAtFault limits text front
    → (more : List (List ℕ)) × (lines text ≡ lines front ++ more)
front_lines {front = front} f = elim f.whole [
  | inl whole ↦ (lines f.more, ap lines f.parts ∙ lines_behind front f.more whole)
  | inr none ↦ ([], ap lines (f.parts ∙ ap (λ m. front ++ m) none ∙ append-nil front) ∙ sym (append-nil (lines front)))
]

amid_cut : {R : Type 0} (bytes : R → List ℕ) (c : CursorView R) (list text front : List ℕ) → 14 ≤ c.limits.line
    → c.used ≤ c.limits.bytes → Amid bytes c list text → EndsAtFault c.limits text front
    → rest_of c text ≡ rest_of c front ++ behind text front
amid_cut bytes c list text front le within amid f =
    let at = amid_front le within amid f in
    let used = same_used le within amid f in
    let w = lines_after c.at_end c.used (drop c.used front) front at.parts at.ended at.whole in
    let first = head_more front (take c.used front) w.0 w.1 in
    let split = front_lines f in
    let whole = head_more text front split.0 split.1 in
    heads_cut (head_of text) (head_of front) whole.0 (length (entries_in (head_of (take c.used text)))) whole.1
    (subst (λ (t : List ℕ). length (entries_in (head_of t)) ≤ length (entries_in (head_of front))) used
    (fewer_entries (head_of front) (head_of (take c.used front)) first.0 first.1))
    ∙ ap (λ t. entries_at (head_of front) (length (entries_in (head_of t))) ++ behind text front) (sym used)

amid_at : {R : Type 0} (stage : Stage) (bytes : R → List ℕ) (c : CursorView R) (list text front : List ℕ) → IsUnfailed stage
    → EndsAtFault c.limits text front → StandsAtStage stage bytes c list text → Amid bytes c list text
amid_at Ended bytes c list text front unfailed f s =
    absurd (first_fault_unsound c.limits text f.number f.kind f.fault s.0)
amid_at (Failed failure) bytes c list text front unfailed f s = absurd unfailed
amid_at Start bytes c list text front unfailed f s = s
amid_at Begun bytes c list text front unfailed f s = s
amid_at Entries bytes c list text front unfailed f s = s

-- A side of a merge whose cursor has not failed.
record CanGive {R : Type 0} (to_come : R → Option (List ℕ)) (c : CursorView R) (d : DeskView) (next : NextEntry)
    (text : List ℕ) : Type 0 where
  unfailed : IsUnfailed c.stage
  ended : next ≡ AtEnd → c.stage ≡ Ended
  line : 14 ≤ c.limits.line
  used : c.used ≤ c.limits.bytes
  stands : Stands to_come c d text

ahead_cut : (next : NextEntry) (shown : Option Entry) (all some rest : List Entry) → (next ≡ AtEnd → ⊥) → all ≡ some ++ rest
    → ahead next shown all ≡ ahead next shown some ++ rest
ahead_cut Due shown all some rest on e = e
ahead_cut Here shown all some rest on e = ap (λ l. given shown ++ l) e ∙ sym (append_assoc (given shown) some rest)
ahead_cut AtEnd shown all some rest on e = absurd (on refl)

columns_staged : (stage : Stage) {limits : Limits} {columns : List Column} {at_end : Bool} {used number : ℕ}
    {list rest front : List ℕ} (held : List Column) → IsUnfailed stage → HoldsAt stage columns list held → IsSome (entry_at held list)
    → IsAmid limits stage columns at_end used number list rest front → columns ≡ columns_of_text front
columns_staged Entries {columns = columns} {at_end = at_end} {used = used} {list = list} {rest = rest} {front = front} held
    unfailed holds there amid =
    let w = lines_after at_end used rest front amid.parts amid.ended amid.whole in
    columns_at used front w.0 columns list amid.is_open.no_end w.1 amid.staged
columns_staged Start {list = list} held unfailed holds there amid = absurd (none_at held list holds there)
columns_staged Begun {list = list} held unfailed holds there amid = absurd (none_at held list holds there)
columns_staged Ended held unfailed holds there amid = absurd amid.staged
columns_staged (Failed failure) held unfailed holds there amid = absurd unfailed

module _ {R : Type 0} {to_come : R → Option (List ℕ)} {c : CursorView R} {d : DeskView} {next : NextEntry} {text front : List ℕ}
    (p : CanGive to_come c d next text) (f : EndsAtFault c.limits text front) where
  amid : Amid (bytes_of to_come) c (list_of c.side d) text
  unfolding StandsIn
  amid = amid_at c.stage (bytes_of to_come) c (list_of c.side d) text front p.unfailed f p.stands.1

  not_ended : c.stage ≡ Ended → ⊥
  not_ended e = subst (λ (stage : Stage). IsStageOf stage c.columns (list_of c.side d) (counted (lines (take c.used text)))) e amid.staged

  side_cut : (shown : Option Entry) → ahead next shown (rest_of c text) ≡ ahead next shown (rest_of c front) ++ behind text front
  side_cut shown = ahead_cut next shown (rest_of c text) (rest_of c front) (behind text front) (λ e. not_ended (p.ended e))
      (amid_cut (bytes_of to_come) c (list_of c.side d) text front p.line p.used amid f)

  side_columns : (side : Side) → c.side ≡ side → next ≢ Due → (next ≡ Here → IsSome (desk_entry side d))
      → c.columns ≡ columns_of_text front
  side_columns side at not_due here = elim (here_or_ended (IsSome (desk_entry side d)) c.stage next not_due here p.ended) [
    | inl there ↦ columns_staged c.stage (columns_of_side c.side d) p.unfailed p.stands.2
        (subst (λ (of : Side). IsSome (desk_entry of d)) (sym at) there)
        (amid_front p.line p.used amid f)
    | inr ended ↦ absurd (not_ended ended)
  ]

side_same : {R : Type 0} {to_come : R → Option (List ℕ)} {c n : CursorView R} {d e : DeskView} {next after : NextEntry}
    {text front : List ℕ} (shown now : Option Entry) → CanGive to_come c d next text → CanGive to_come n e after text
    → n.limits ≡ c.limits → ahead after now (rest_of n text) ≡ ahead next shown (rest_of c text)
    → (front ≡ text) ⊎ EndsAtFault c.limits text front
    → ahead after now (rest_of n front) ≡ ahead next shown (rest_of c front)
side_same {c = c} {n = n} {next = next} {after = after} {text = text} {front = front} shown now p q limits same is = elim is [
  | inl e ↦ subst (λ (t : List ℕ). ahead after now (rest_of n t) ≡ ahead next shown (rest_of c t)) (sym e) same
  | inr f ↦ append_cancel_right (ahead after now (rest_of n front)) (ahead next shown (rest_of c front)) (behind text front)
      (sym (side_cut q (subst (λ (l : Limits). EndsAtFault l text front) (sym limits) f) now) ∙ same ∙ side_cut p f shown)
]

-- ---- both sides of a merge

module _ {R : Type 0} (to_come : R → Option (List ℕ)) (m : Merge R) (d : DeskView) (ready : IsReady m d) (within : IsWithinLimits m) where
  old_gives : (text : List ℕ) → StandsAt to_come m d Old text → CanGive to_come m.old_cursor d m.old_next text
  old_gives text s = record {
    unfailed = ready.old_unfailed;
    ended = ready.old_ended;
    line = within.old_limits.line;
    used = within.old_used;
    stands = s;
  }

  new_gives : (text : List ℕ) → StandsAt to_come m d New text → CanGive to_come m.new_cursor d m.new_next text
  new_gives text s = record {
    unfailed = ready.new_unfailed;
    ended = ready.new_ended;
    line = within.new_limits.line;
    used = within.new_used;
    stands = s;
  }

  -- once the entries that were due have been read, a cursor has the columns of its text, also of what comes before the first fault
  pub old_front_columns : (front : List ℕ) → IsNotDue m → ReadsUpTo to_come m d Old front → m.old_cursor.columns ≡ columns_of_text front
  old_front_columns front not_due s = elim s.2 [
    | inl e ↦ old_columns to_come m d s.0 ready not_due s.1 ∙ ap columns_of_text (sym e)
    | inr f ↦ side_columns (old_gives s.0 s.1) f Old ready.old_side not_due.old_not_due ready.old_here
  ]

  pub new_front_columns : (front : List ℕ) → IsNotDue m → ReadsUpTo to_come m d New front → m.new_cursor.columns ≡ columns_of_text front
  new_front_columns front not_due s = elim s.2 [
    | inl e ↦ new_columns to_come m d s.0 ready not_due s.1 ∙ ap columns_of_text (sym e)
    | inr f ↦ side_columns (new_gives s.0 s.1) f New ready.new_side not_due.new_not_due ready.new_here
  ]

-- a merge that goes on reads the same
pub reads_on : {R : Type 0} {r : Reels R} {m n : Merge R} {d e : DeskView} → KeepsMerge r m n d e → (side : Side) (front : List ℕ)
    → ReadsUpTo r.to_come m d side front → ReadsUpTo r.to_come n e side front
reads_on keeps side front s = (
  s.0,
  keeps.stands side s.0 s.1,
  elim s.2 [
    | inl same ↦ inl same
    | inr f ↦ inr (subst (λ (l : Limits). EndsAtFault l s.0 front) (sym (keeps.limits side)) f)
  ],
)

-- what comes before the first fault of a text that a side represents
pub reads_front : {R : Type 0} {limits : Limits} (to_come : R → Option (List ℕ)) (m : Merge R) (d : DeskView) (side : Side)
    {text front : List ℕ} → limits_at m side ≡ limits → StandsAt to_come m d side text → IsBeforeFault limits text front
    → ReadsUpTo to_come m d side front
reads_front to_come m d side {text = text} {front = front} same s is = (
  text,
  s,
  elim is [
    | inl sound ↦ inl sound.1
    | inr f ↦ inr (subst (λ (l : Limits). EndsAtFault l text front) (sym same) f)
  ],
)

-- the entries that were due are read: the same changes are still to come, also of what comes before the first faults
pub front_same : {R : Type 0} {r : Reels R} {m n : Merge R} {d e : DeskView} → IsReady m d → IsWithinLimits m → KeepsMerge r m n d e
    → HasRead r m n d e → (old new : List ℕ) → ReadsUpTo r.to_come m d Old old → ReadsUpTo r.to_come m d New new
    → remaining m d old new ≡ remaining n e old new
front_same {r = r} {m = m} {n = n} {d = d} {e = e} ready within keeps read old new s t =
    let to_come = r.to_come in
    let old_same = side_same (desk_entry Old d) (desk_entry Old e) (old_gives to_come m d ready within s.0 s.1)
    (old_gives to_come n e read.ready (read.within within) s.0 (keeps.stands Old s.0 s.1)) (keeps.limits Old)
    (read.old_ahead s.0 s.1) s.2 in
    let new_same = side_same (desk_entry New d) (desk_entry New e) (new_gives to_come m d ready within t.0 t.1)
    (new_gives to_come n e read.ready (read.within within) t.0 (keeps.stands New t.0 t.1)) (keeps.limits New)
    (read.new_ahead t.0 t.1) t.2 in
    λ i. merged path_cmp (sym old_same i) (sym new_same i)

-- a merge has come to a path if no change that is still to come is before it
pub comes_to : {R : Type 0} {r : Reels R} {path : List ℕ} {m n k : Merge R} {d e f : DeskView} → KeepsMerge r m n d e → IsReady n e
    → IsWithinLimits n → KeepsMerge r n k e f → HasRead r n k e f
    → ((old new : List ℕ) → ReadsUpTo r.to_come m d Old old → ReadsUpTo r.to_come m d New new
    → seek path (remaining m d old new) ≡ seek path (remaining n e old new))
    → ((old new : List ℕ) → remaining k f old new ≡ seek path (remaining k f old new)) → IsSought r path m k d f
comes_to {path = path} keeps ready within kept read same here = record {
  ready = read.ready;
  not_due = read.not_due;
  within = read.within within;
  same = λ old new s t. here old new
      ∙ sym (ap (seek path) (front_same ready within kept read old new (reads_on keeps Old old s) (reads_on keeps New new t)))
      ∙ sym (same old new s t);
}
