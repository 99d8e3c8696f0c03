-- A walk over both pairs, one change after another.
use Rattle.std.proofs.Common.{◌≡◌, ◌∙◌, ◌+◌, ◌∷◌, ◌++◌, List, Option, [], ap, append_assoc, refl, rules, sym, ℕ}
use Rattle.std.specs.Prelude.{None, Ok, Err}
use Rattle.std.proofs.lemmas.List.{append-nil, map-append}
use Rattle.aide_agreement.specs.Account.{same_as}
use Rattle.aide_line_text.specs.declared.account.Account.{Account}
use Rattle.aide_conf.specs.declared.options.Options.{Options}
use Rattle.aide_db.specs.CursorView.{CursorView}
use Rattle.aide_db.specs.DeskView.{DeskView}
use Rattle.aide_db.specs.declared.reel.Reel.{Ghosts as Reels}
use Rattle.aide_db.specs.declared.side.Side.TheVariants.{Old, New}
use Rattle.aide_fields.specs.Attributes.{Entry}
use Rattle.aide_line_text.specs.declared.counts.LineCounts.{LineCounts}
use Rattle.aide_merge.specs.Said.{PathChange}
use Rattle.aide_merge.specs.code.ChangeView.{alike_of}
use Rattle.aide_line_run.specs.code.LineTally.{sum_of_counts}
use Rattle.aide_merge.specs.code.MergeCalls.{HasRead, IsStep, KeepsMerge}
use Rattle.aide_merge.specs.code.Merging.{IsNotDue, IsReady, IsWithinLimits, remaining}
use Rattle.aide_merge.specs.declared.change.AtPath.{AtPath}
use Rattle.aide_merge.specs.declared.merge.Merge.{Merge}
use Rattle.aide_text.specs.Sheet.{Sheet, Wrote}
use Rattle.aide_text.proofs.Sheets.{wrote_as, wrote_more, wrote_nothing}
use Rattle.aide_line_run.specs.ListView.{measures_at}
use Rattle.aide_line_run.specs.Listed.{ListRead, account_by, leaves_between, left_by, measures_between, measures_by}
use Rattle.aide_line_run.specs.Sought.{Accounted, accounted_line, accounted_lines, all_sought, changes_of, found_at, seek, sought_by}
use Rattle.aide_line_run.specs.code.Calls.{IsSought}
use Rattle.aide_line_run.specs.code.Over.{ReadsUpTo}
use Rattle.aide_line_run.specs.code.Tallied.{tally_of}
use Rattle.aide_line_run.specs.code.Walked.{HasWalked, IsWalking, KeepsMerges}
use Rattle.aide_line_run.specs.declared.walk.Merges.{Merges}
use Rattle.aide_line_run.specs.declared.walk.PairStop.{PairStop}
use Rattle.aide_line_run.proofs.FrontLemmas.{front_same, new_front_columns, old_front_columns, reads_on}
use Rattle.aide_line_run.proofs.SoughtLemmas.{alike_sought, none_sought, one_sought, sorted_rest, sought_alike, sought_more}
use Rattle.aide_line_run.proofs.TallyLemmas.{line_alike, lines_next, lines_of_sought, tally_alike, tally_more, tally_next, tally_none}
use Rattle.aide_line_run.proofs.TallyLemmas.{tally_pairs, tally_start}

-- what a merge that has read what was due measures is what its texts do, also once it has passed on a path
measures_known : {R : Type 0} (to_come : R → Option (List ℕ)) (m n : Merge R) (d : DeskView) (old new : List ℕ)
    → IsReady m d → IsWithinLimits m → IsNotDue m → n.old_cursor ≡ m.old_cursor → n.new_cursor ≡ m.new_cursor
    → ReadsUpTo to_come m d Old old → ReadsUpTo to_come m d New new → measures_at n ≡ measures_between old new
measures_known {R = R} to_come m n d old new ready within not_due same_old same_new s t = λ i. measures_by
    ((ap (λ (c : CursorView R). c.columns) same_old ∙ old_front_columns to_come m d ready within old not_due s) i)
    ((ap (λ (c : CursorView R). c.columns) same_new ∙ new_front_columns to_come m d ready within new not_due t) i)

changes_next : (done : List Accounted) (m : Accounted) (rest : List PathChange)
    → changes_of done ++ (m.0 ∷ rest) ≡ changes_of (done ++ m ∷ []) ++ rest
changes_next done m rest = search (rules, append_assoc, map-append)

module _ {R : Type 0} (r : Reels R) (list : ListRead) (options : Options) (m : Merges R) (d u : DeskView) where
  -- nothing was met before
  pub walk_start : (counts : LineCounts) (s : Sheet)
      → counts ≡ record { total = 0; added = 0; removed = 0; changed = 0; same_as_old = 0; same_as_trusted = 0; left_out = 0; others = 0 }
      → IsWalking r list options m m d d u u counts s s
  walk_start counts s is = record {
    done = [];
    wrote = wrote_nothing s;
    counted = is;
    changes = λ old new s t. refl;
    lines = λ old new trusted_old trusted_new s t u v in_order. refl;
    tallies = λ old new trusted_old trusted_new s t u v in_order. tally_start options counts _ is;
    sorted = λ old new s t in_order. in_order;
  }

  module _ {n : Merges R} {e v : DeskView} {counts : LineCounts} {a b : Sheet}
      (p : IsWalking r list options m n d e u v counts a b) (keeps : KeepsMerges r m n d e u v) where
    -- one change more: the compared merge was read and has passed on, and the trusted one has come to the path
    pub walk_more : (c : PathChange) (account : Option Account) {l k w : Merge R} {f g : DeskView} {path : AtPath}
        {after : LineCounts} {z : Sheet}
        → IsReady n.compared e → IsWithinLimits n.compared → KeepsMerge r n.compared l e f → HasRead r n.compared l e f
        → (step : IsStep l k f path) → step.changes ≡ c ∷ []
        → k.old_cursor ≡ l.old_cursor → k.new_cursor ≡ l.new_cursor → IsSought r c.0 n.trusted w v g
        → ((trusted_old trusted_new : List ℕ) → account ≡ account_by
        (same_as c.1 (found_at c.0 (remaining w g trusted_old trusted_new))) (left_by list (measures_at k) c))
        → after ≡ sum_of_counts counts (tally_of options ((c, account) ∷ []))
        → Wrote (accounted_line options (c, account)) b z
        → IsWalking r list options m (record { compared = k; trusted = w }) d f u g after a z
    walk_more c account {l} {k} {w} {f} {g} {after = after} ready within kept read step one old_same new_same sought told grows wrote =
        let changes = step.changes in
        let next : (old new : List ℕ) → ReadsUpTo r.to_come m.compared d Old old → ReadsUpTo r.to_come m.compared d New new
        → remaining n.compared e old new ≡ changes ++ remaining k f old new =
        λ old new s t. front_same ready within kept read old new (reads_on keeps.compared Old old s) (reads_on keeps.compared New new t)
        ∙ step.gives old new in
        let here : (old new : List ℕ) → ReadsUpTo r.to_come m.trusted u Old old → ReadsUpTo r.to_come m.trusted u New new
        → remaining w g old new ≡ seek c.0 (remaining n.trusted v old new) =
        λ old new s t. sought.same old new (reads_on keeps.trusted Old old s) (reads_on keeps.trusted New new t) in
        let means : (old new trusted_old trusted_new : List ℕ) → ReadsUpTo r.to_come m.compared d Old old
        → ReadsUpTo r.to_come m.compared d New new
        → account ≡ account_by (same_as c.1 (found_at c.0 (remaining w g trusted_old trusted_new))) (leaves_between list old new c) =
        λ old new trusted_old trusted_new s t. told trusted_old trusted_new
        ∙ ap (λ measures. account_by (same_as c.1 (found_at c.0 (remaining w g trusted_old trusted_new))) (left_by list measures c))
        (measures_known r.to_come l k f old new read.ready (read.within within) read.not_due old_same new_same
        (reads_on kept Old old (reads_on keeps.compared Old old s)) (reads_on kept New new (reads_on keeps.compared New new t))) in
        record {
          done = p.done ++ (c, account) ∷ [];
          wrote = wrote_as (lines_next options p.done (c, account)) (wrote_more p.wrote wrote);
          counted = tally_next options counts after p.done (c, account) p.counted grows;
          changes = λ old new s t. p.changes old new s t
              ∙ ap (λ l. changes_of p.done ++ l) (next old new s t ∙ ap (λ l. l ++ remaining k f old new) one)
              ∙ changes_next p.done (c, account) (remaining k f old new);
          lines = λ old new trusted_old trusted_new s t x y in_order.
              let rest = accounted_lines options (all_sought (leaves_between list old new) (remaining k f old new)
              (remaining w g trusted_old trusted_new)) in
              p.lines old new trusted_old trusted_new s t x y in_order
              ∙ ap (λ l. accounted_lines options p.done ++ l)
              (one_sought (accounted_line options) (leaves_between list old new) c (remaining n.compared e old new) changes
              (remaining k f old new)
              (remaining n.trusted v trusted_old trusted_new) (remaining w g trusted_old trusted_new) account
              (next old new s t) one (here trusted_old trusted_new x y) (means old new trusted_old trusted_new s t)
              (p.sorted old new s t in_order))
              ∙ sym (append_assoc (accounted_lines options p.done) (accounted_line options (c, account)) rest)
              ∙ ap (λ l. l ++ rest) (lines_next options p.done (c, account));
          tallies = λ old new trusted_old trusted_new s t x y in_order.
              tally_more options counts after _ (c, account) _ _
              (sought_more (leaves_between list old new) c (remaining n.compared e old new) changes
              (remaining k f old new)
              (remaining n.trusted v trusted_old trusted_new) (remaining w g trusted_old trusted_new) account
              (next old new s t) one (here trusted_old trusted_new x y) (means old new trusted_old trusted_new s t)
              (p.sorted old new s t in_order))
              grows (p.tallies old new trusted_old trusted_new s t x y in_order);
          sorted = λ old new s t in_order. sorted_rest c (remaining n.compared e old new) changes (remaining k f old new)
              (next old new s t) one (p.sorted old new s t in_order);
        }

    -- an entry that both have alike
    pub walk_alike : (entry : Entry) (changes : List PathChange) (k : Merge R) (f : DeskView)
        → ((old new : List ℕ) → ReadsUpTo r.to_come n.compared e Old old → ReadsUpTo r.to_come n.compared e New new
        → remaining n.compared e old new ≡ changes ++ remaining k f old new)
        → changes ≡ alike_of entry ∷ []
        → IsWalking r list options m (record { compared = k; trusted = n.trusted }) d f u v (record counts { total = counts.total + 1 }) a b
    walk_alike entry changes k f gives one =
        let next : (old new : List ℕ) → ReadsUpTo r.to_come m.compared d Old old → ReadsUpTo r.to_come m.compared d New new
        → remaining n.compared e old new ≡ changes ++ remaining k f old new =
        λ old new s t. gives old new (reads_on keeps.compared Old old s) (reads_on keeps.compared New new t) in
        let after : LineCounts = record counts { total = counts.total + 1 } in
        record {
          done = p.done ++ (alike_of entry, None) ∷ [];
          wrote = wrote_as (lines_next options p.done (alike_of entry, None))
              (wrote_as (sym (ap (λ l. accounted_lines options p.done ++ l) (line_alike options entry None)
              ∙ append-nil (accounted_lines options p.done))) p.wrote);
          counted = tally_next options counts after p.done (alike_of entry, None) p.counted (tally_alike options counts entry None);
          changes = λ old new s t. p.changes old new s t
              ∙ ap (λ l. changes_of p.done ++ l) (next old new s t ∙ ap (λ l. l ++ remaining k f old new) one)
              ∙ changes_next p.done (alike_of entry, None) (remaining k f old new);
          lines = λ old new trusted_old trusted_new s t x y in_order.
              let rest = accounted_lines options (all_sought (leaves_between list old new) (remaining k f old new)
              (remaining n.trusted v trusted_old trusted_new)) in
              p.lines old new trusted_old trusted_new s t x y in_order
              ∙ ap (λ l. accounted_lines options p.done ++ l)
              (alike_sought (accounted_line options) (leaves_between list old new) entry (remaining n.compared e old new)
              changes (remaining k f old new)
              (remaining n.trusted v trusted_old trusted_new) (line_alike options entry) (next old new s t) one)
              ∙ ap (λ l. l ++ rest) (sym (append-nil (accounted_lines options p.done))
              ∙ ap (λ l. accounted_lines options p.done ++ l) (sym (line_alike options entry None))
              ∙ lines_next options p.done (alike_of entry, None));
          tallies = λ old new trusted_old trusted_new s t x y in_order.
              let account = sought_by (leaves_between list old new) (remaining n.trusted v trusted_old trusted_new)
              (alike_of entry) in
              tally_more options counts after _ (alike_of entry, account) _ _
              (sought_alike (leaves_between list old new) entry (remaining n.compared e old new) changes (remaining k f old new)
              (remaining n.trusted v trusted_old trusted_new) (next old new s t) one)
              (tally_alike options counts entry account) (p.tallies old new trusted_old trusted_new s t x y in_order);
          sorted = λ old new s t in_order. sorted_rest (alike_of entry) (remaining n.compared e old new) changes (remaining k f old new)
              (next old new s t) one (p.sorted old new s t in_order);
        }

    -- the end of the compared pair
    pub walk_ended : ((old new : List ℕ) → ReadsUpTo r.to_come n.compared e Old old → ReadsUpTo r.to_come n.compared e New new
        → remaining n.compared e old new ≡ [])
        → HasWalked {E = PairStop} r list options [] (λ counts. counts) m d u a b (Ok counts)
    walk_ended none =
        let nothing : (old new : List ℕ) → ReadsUpTo r.to_come m.compared d Old old → ReadsUpTo r.to_come m.compared d New new
        → remaining n.compared e old new ≡ [] =
        λ old new s t. none old new (reads_on keeps.compared Old old s) (reads_on keeps.compared New new t) in
        record {
          done = p.done;
          are = record {
            changes = λ old new s t. p.changes old new s t ∙ ap (λ l. changes_of p.done ++ l) (nothing old new s t)
                ∙ append-nil (changes_of p.done);
            lines = λ old new trusted_old trusted_new s t x y in_order.
                sym (lines_of_sought options (leaves_between list old new) (remaining m.compared d old new)
                (remaining m.trusted u trusted_old trusted_new))
                ∙ p.lines old new trusted_old trusted_new s t x y in_order
                ∙ ap (λ l. accounted_lines options p.done ++ l) (none_sought (accounted_line options)
                (leaves_between list old new) (remaining n.compared e old new) (remaining n.trusted v trusted_old trusted_new)
                (nothing old new s t))
                ∙ append-nil (accounted_lines options p.done);
          };
          wrote = p.wrote;
          counted = p.counted;
          counts = λ old new trusted_old trusted_new s t x y in_order.
              tally_none options counts _
              (ap (λ rest. sum_of_counts counts (tally_of options
              (all_sought (leaves_between list old new) rest (remaining n.trusted v trusted_old trusted_new))))
              (sym (nothing old new s t))
              ∙ p.tallies old new trusted_old trusted_new s t x y in_order)
              ∙ sym (tally_pairs options (leaves_between list old new) (remaining m.compared d old new)
              (remaining m.trusted u trusted_old trusted_new));
        }

    -- a stop in the midst of it
    pub walk_stopped : (stop : PairStop) → HasWalked {X = LineCounts} r list options [] (λ counts. counts) m d u a b (Err stop)
    walk_stopped stop = record {
      done = p.done;
      are = record {
        changes = λ old new s t. (remaining n.compared e old new, p.changes old new s t);
        lines = λ old new trusted_old trusted_new s t x y in_order. (
          accounted_lines options (all_sought (leaves_between list old new) (remaining n.compared e old new)
              (remaining n.trusted v trusted_old trusted_new)),
          sym (lines_of_sought options (leaves_between list old new) (remaining m.compared d old new)
              (remaining m.trusted u trusted_old trusted_new))
              ∙ p.lines old new trusted_old trusted_new s t x y in_order,
        );
      };
      wrote = p.wrote;
      counted = tt;
      counts = tt;
    }

-- the same with another answer
pub walked_err : {R X Y E F : Type 0} {r : Reels R} {list : ListRead} {options : Options} {first : List ℕ} {counts_in : X → LineCounts}
    {m : Merges R} {d u : DeskView} {a b : Sheet} (stop : E) (other : F) (also_in : Y → LineCounts)
    → HasWalked {X = X} r list options first counts_in m d u a b (Err stop)
    → HasWalked {X = Y} r list options first also_in m d u a b (Err other)
walked_err stop other also_in p = search rules

-- a stop behind all of it
pub walked_late : {R X Y E F : Type 0} {r : Reels R} {list : ListRead} {options : Options} {first : List ℕ} {counts_in : X → LineCounts}
    {m : Merges R} {d u : DeskView} {a b : Sheet} (answer : X) (stop : F) (also_in : Y → LineCounts)
    → HasWalked {E = E} r list options first counts_in m d u a b (Ok answer)
    → HasWalked {X = Y} r list options first also_in m d u a b (Err stop)
walked_late answer stop also_in p = record {
  done = p.done;
  are = record {
    changes = λ old new s t. ([], p.are.changes old new s t ∙ sym (append-nil (changes_of p.done)));
    lines = λ old new trusted_old trusted_new s t x y in_order.
        ([], p.are.lines old new trusted_old trusted_new s t x y in_order ∙ sym (append-nil _));
  };
  wrote = p.wrote;
  counted = tt;
  counts = tt;
}
