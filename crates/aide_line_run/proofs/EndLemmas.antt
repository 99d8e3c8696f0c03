-- How a run with a trusted pair ends, by what has gone out and what was found of all four databases.
use Rattle.std.specs.Prelude.{◌≡◌, ◌⊎◌, ℕ, Option, Some, None, Err, List, [], ◌∷◌, ◌++◌, map, true, false}
use Rattle.std.proofs.Common.{◌∙◌, ap, append_assoc, inl, inr, refl, rules, subst, sym}
use Rattle.std.proofs.lemmas.Grind.{flat_map-append}
use Rattle.std.proofs.lemmas.List.{map-append}
use Rattle.std.specs.FinMap.Entries.{is_sorted}
use Rattle.aide_db.specs.DeskView.{DeskView}
use Rattle.aide_db.specs.Map.{database_of}
use Rattle.aide_db.specs.declared.limits.Limits.{Limits}
use Rattle.aide_db.specs.declared.reel.Reel.{Ghosts as Reels}
use Rattle.aide_db.specs.declared.side.Side.TheVariants.{Old, New}
use Rattle.aide_fields.specs.Path.{path_cmp}
use Rattle.aide_text.specs.Sent.{SendsPart}
use Rattle.aide_text.proofs.Sending.{Appends-nothing}
use Rattle.aide_merge.specs.Asked.{Asked}
use Rattle.aide_line_run.specs.ChangeLines.{change_lines}
use Rattle.aide_merge.specs.Said.{PathChange}
use Rattle.aide_line_run.specs.LineCounts.{line_counts}
use Rattle.aide_line_run.specs.LineCounts.{line_outcome}
use Rattle.aide_merge.specs.Seen.{Seen}
use Rattle.aide_merge.specs.code.Merging.{pass_of}
use Rattle.aide_line_run.specs.code.LineTally.{tally}
use Rattle.aide_merge.specs.code.Merging.{remaining}
use Rattle.aide_merge.specs.code.BothRead.{AreRead}
use Rattle.aide_merge.specs.declared.run_fault.RunFault.TheVariants.{Open, Database, Changed, Write}
use Rattle.aide_line_run.proofs.LineLaws.{tally_is}
use Rattle.aide_line_run.proofs.LineRunLemmas.{texts_read}
use Rattle.aide_line_run.proofs.OneReadingLemmas.{are_read}
use Rattle.aide_merge.proofs.TextLemmas.{pass_is_changes}
use Rattle.aide_line_run.specs.Lines.{BeginsLines, lines_framed, by_texts, last_line, facts_of_texts}
use Rattle.aide_line_run.specs.Lines.{lines_of_texts, first_line}
use Rattle.aide_line_run.specs.BeforeFault.{AreBeforeFaults, FourTexts}
use Rattle.aide_line_run.specs.RunEnds.{AreAllSound, CutsFronts, CutsLines}
use Rattle.aide_line_run.specs.RunEnds.{lines_before_last}
use Rattle.aide_line_run.specs.Listed.{Leaves, ListRead, leaves_between}
use Rattle.aide_line_run.specs.Sought.{Accounted, accounted_line, accounted_lines, changes_of, sought_by}
use Rattle.aide_line_run.specs.code.Over.{AreDone, ReadsUpTo}
use Rattle.aide_line_run.specs.code.Readings.{AreOpened}
use Rattle.aide_line_run.specs.code.Written.{ArePairsRead, CutsChanges, CutsLast, HasToldAll, IsWrite, lines_begun, lines_found}
use Rattle.aide_line_run.specs.declared.pair_fault.PairFault.{PairFault}
use Rattle.aide_line_run.specs.declared.pair_fault.PairFault.TheVariants.{Compared, Trusted}
use Rattle.aide_line_run.specs.declared.walk.Merges.{Merges}
use Rattle.aide_line_run.specs.declared.write.PairsFound.{PairsFound}
use Rattle.aide_line_run.proofs.FrontLaws.{front_is_changes}
use Rattle.aide_line_run.proofs.FrontLemmas.{reads_front}
use Rattle.aide_line_run.proofs.Laws.{maps_sorted, maps_sought, pass_sorted, sought_is}

pub true_false : true ≡ false → ⊥
true_false e = cc

-- ---- a beginning

pub part_none : (text : List ℕ) (bytes : Option (List ℕ)) → SendsPart text bytes bytes
part_none text bytes = record { front = []; rest = text; whole = refl; bytes = Appends-nothing bytes }

-- a beginning of a text is one of a longer text
part_longer : {text : List ℕ} {before after : Option (List ℕ)} (more whole : List ℕ) → whole ≡ text ++ more
    → SendsPart text before after → SendsPart whole before after
part_longer more whole is p = search (rules, append_assoc)

abbrev unaccounted : List PathChange → List Accounted
unaccounted changes = map (λ change. (change, None)) changes

unaccounted_are : (changes : List PathChange) → changes_of (unaccounted changes) ≡ changes
unaccounted_are [] = refl
unaccounted_are (c ∷ cs) = ap (λ l. c ∷ l) (unaccounted_are cs)

begins_none : (leaves : Leaves) (wish trusted_wish : Asked) (changes trusted_changes : List PathChange) (bytes : Option (List ℕ))
    → BeginsLines leaves wish trusted_wish changes trusted_changes bytes bytes
begins_none leaves wish trusted_wish changes trusted_changes bytes = record {
  accounted = unaccounted changes;
  all = unaccounted_are changes;
  part = part_none _ bytes;
  sought = λ in_order. part_none _ bytes;
}

-- nothing has gone out
module _ (limits : Limits) (list : ListRead) (wish trusted_wish : Asked) (old new trusted_old trusted_new : List ℕ)
    (bytes : Option (List ℕ)) where
  pub cut_none : (fault : PairFault) → CutsLines limits list wish trusted_wish old new trusted_old trusted_new bytes bytes fault
  cut_none (Compared (Open side)) = begins_none _ wish trusted_wish _ _ bytes
  cut_none (Compared (Database fault)) = begins_none _ wish trusted_wish _ _ bytes
  cut_none (Compared (Changed side)) = begins_none _ wish trusted_wish _ _ bytes
  cut_none (Compared (Write written)) = (λ sound. part_none _ bytes, λ unsound. begins_none _ wish trusted_wish _ _ bytes)
  cut_none (Trusted fault) = begins_none _ wish trusted_wish _ _ bytes

pub fronts_none : (limits : Limits) (list : ListRead) (wish trusted_wish : Asked) (texts fronts : FourTexts) (bytes : Option (List ℕ))
    (fault : PairFault) → CutsFronts limits list wish trusted_wish texts fronts bytes bytes fault
fronts_none limits list wish trusted_wish texts fronts bytes (Compared (Write written)) = λ unsound. part_none _ bytes
fronts_none limits list wish trusted_wish texts fronts bytes (Compared (Open side)) = part_none _ bytes
fronts_none limits list wish trusted_wish texts fronts bytes (Compared (Database fault)) = part_none _ bytes
fronts_none limits list wish trusted_wish texts fronts bytes (Compared (Changed side)) = part_none _ bytes
fronts_none limits list wish trusted_wish texts fronts bytes (Trusted fault) = part_none _ bytes

-- ---- both pairs were read to their ends

module _ {R : Type 0} {r : Reels R} {limits : Limits} {a b s t : Seen} {m : Merges R} {e v : DeskView}
    (p : AreOpened r limits a b e m.compared) (q : AreOpened r limits s t v m.trusted) where
  module _ {n : Merges R} {f w : DeskView} {found : PairsFound} (read : ArePairsRead r m n e f v w found) where
    pub compared_read : AreRead limits a found.compared
    compared_read = are_read p.there p.opened read.keeps.compared read.ended read.read

    pub trusted_read : AreRead limits s found.trusted
    trusted_read = are_read q.there q.opened read.keeps.trusted read.trusted_ended read.trusted_read

  -- four texts, or what of them comes before their first faults
  module _ (list : ListRead) (wish trusted_wish : Asked) (old new trusted_old trusted_new : List ℕ) where
    abbrev lines_sought : List ℕ
    lines_sought = change_lines wish.options (sought_by (leaves_between list old new) (pass_of trusted_old trusted_new))
        (pass_of old new)

    abbrev lines_left : List ℕ
    lines_left = change_lines wish.options (sought_by (leaves_between list old new)
        (remaining m.trusted v trusted_old trusted_new)) (remaining m.compared e old new)

    left_are : lines_left ≡ lines_sought
    left_are = λ i. change_lines wish.options (sought_by (leaves_between list old new)
        (q.opened.rest trusted_old trusted_new i)) (p.opened.rest old new i)

    sorted_left : is_sorted path_cmp (pass_of old new) ≡ true → is_sorted path_cmp (remaining m.compared e old new) ≡ true
    sorted_left in_order = ap (is_sorted path_cmp) (p.opened.rest old new) ∙ in_order

    -- what has gone out of changes that were broken off
    done_begins : (done : List Accounted) (before after : Option (List ℕ)) (fault : PairFault)
        → AreDone {X = PairsFound} r list wish.options m e v done (Err fault)
        → SendsPart (lines_begun wish trusted_wish done) before after
        → ReadsUpTo r.to_come m.compared e Old old → ReadsUpTo r.to_come m.compared e New new
        → ReadsUpTo r.to_come m.trusted v Old trusted_old → ReadsUpTo r.to_come m.trusted v New trusted_new
        → BeginsLines (leaves_between list old new) wish trusted_wish (pass_of old new) (pass_of trusted_old trusted_new)
        before after
    done_begins done before after fault are part of_old of_new of_trusted_old of_trusted_new =
        let opening = first_line wish trusted_wish in
        let rest = are.changes old new of_old of_new in
        record {
          accounted = done ++ unaccounted rest.0;
          all = map-append (λ (each : Accounted). each.0) done (unaccounted rest.0)
              ∙ ap (λ l. changes_of done ++ l) (unaccounted_are rest.0) ∙ sym rest.1 ∙ p.opened.rest old new;
          part = part_longer (accounted_lines wish.options (unaccounted rest.0)) _
              (ap (λ l. opening ++ l) (flat_map-append (accounted_line wish.options) done (unaccounted rest.0))
              ∙ sym (append_assoc opening (accounted_lines wish.options done) (accounted_lines wish.options (unaccounted rest.0)))) part;
          sought = λ in_order.
              let lines = are.lines old new trusted_old trusted_new of_old of_new of_trusted_old of_trusted_new (sorted_left in_order) in
              part_longer lines.0 _ (ap (λ l. opening ++ l) (sym left_are ∙ lines.1)
              ∙ sym (append_assoc opening (accounted_lines wish.options done) lines.0)) part;
        }

  -- four texts that are told
  module _ (list : ListRead) (wish trusted_wish : Asked) (old new trusted_old trusted_new : List ℕ)
      (told_old : a.bytes_of Old ≡ Some old) (told_new : a.bytes_of New ≡ Some new)
      (told_trusted_old : s.bytes_of Old ≡ Some trusted_old) (told_trusted_new : s.bytes_of New ≡ Some trusted_new) where
    of_old : ReadsUpTo r.to_come m.compared e Old old
    of_old = (old, p.opened.stands Old old told_old, inl refl)

    of_new : ReadsUpTo r.to_come m.compared e New new
    of_new = (new, p.opened.stands New new told_new, inl refl)

    of_trusted_old : ReadsUpTo r.to_come m.trusted v Old trusted_old
    of_trusted_old = (trusted_old, q.opened.stands Old trusted_old told_trusted_old, inl refl)

    of_trusted_new : ReadsUpTo r.to_come m.trusted v New trusted_new
    of_trusted_new = (trusted_new, q.opened.stands New trusted_new told_trusted_new, inl refl)

    -- ---- sound texts

    module _ (sound : AreAllSound limits old new trusted_old trusted_new) where
      in_order : is_sorted path_cmp (pass_of old new) ≡ true
      in_order = pass_sorted limits old new sound.of_old sound.of_new

      -- what comes before the last line
      text_begun : (lines_of_texts list wish trusted_wish old new trusted_old trusted_new).text
          ≡ (first_line wish trusted_wish ++ lines_sought list wish trusted_wish old new trusted_old trusted_new)
          ++ last_line list (facts_of_texts old new trusted_old trusted_new)
          (line_counts wish.options (by_texts list old new trusted_old trusted_new) (database_of old) (database_of new))
      unfolding lines_of_texts lines_framed
      text_begun = sym (λ i. (first_line wish trusted_wish
          ++ change_lines wish.options (sought_is (leaves_between list old new) limits trusted_old trusted_new
          sound.of_trusted_old sound.of_trusted_new i)
          (sym (pass_is_changes limits old new sound.of_old sound.of_new) i))
          ++ last_line list (facts_of_texts old new trusted_old trusted_new)
          (line_counts wish.options (by_texts list old new trusted_old trusted_new) (database_of old) (database_of new)))

      begins_whole : {before after : Option (List ℕ)}
          → BeginsLines (leaves_between list old new) wish trusted_wish (pass_of old new) (pass_of trusted_old trusted_new)
          before after
          → SendsPart (lines_of_texts list wish trusted_wish old new trusted_old trusted_new).text before after
      begins_whole begins = part_longer _ _ text_begun (begins.sought in_order)

      counts_of_pass : tally wish.options (sought_by (leaves_between list old new) (pass_of trusted_old trusted_new))
          (pass_of old new)
          ≡ line_counts wish.options (by_texts list old new trusted_old trusted_new) (database_of old) (database_of new)
      counts_of_pass =
          (λ i. tally wish.options (sought_is (leaves_between list old new) limits trusted_old trusted_new sound.of_trusted_old
          sound.of_trusted_new i)
          (sym (pass_is_changes limits old new sound.of_old sound.of_new) i))
          ∙ tally_is wish.options (by_texts list old new trusted_old trusted_new) (database_of old) (database_of new)

      module _ {n : Merges R} {f w : DeskView} {found : PairsFound} {Goes : List ℕ → Type 0}
          (told : HasToldAll r list wish trusted_wish m n e f v w found Goes) where
        counted : found.counts ≡ line_counts wish.options (by_texts list old new trusted_old trusted_new)
            (database_of old) (database_of new)
        counted =
            told.counts old new trusted_old trusted_new of_old of_new of_trusted_old of_trusted_new
            (sorted_left list wish trusted_wish old new trusted_old trusted_new in_order)
            ∙ (λ i. tally wish.options (sought_by (leaves_between list old new) (q.opened.rest trusted_old trusted_new i))
            (p.opened.rest old new i))
            ∙ counts_of_pass

        all_lines : lines_sought list wish trusted_wish old new trusted_old trusted_new ≡ accounted_lines wish.options told.done
        all_lines = sym (left_are list wish trusted_wish old new trusted_old trusted_new)
            ∙ told.are.lines old new trusted_old trusted_new of_old of_new of_trusted_old of_trusted_new
            (sorted_left list wish trusted_wish old new trusted_old trusted_new in_order)

        -- what was written is the answer
        pub told_is : lines_found list wish trusted_wish told.done found
            ≡ (lines_of_texts list wish trusted_wish old new trusted_old trusted_new).text
        told_is =
            let is = texts_read old new (compared_read told.read) told_old told_new in
            let other = texts_read trusted_old trusted_new (trusted_read told.read) told_trusted_old told_trusted_new in
            (λ i. (first_line wish trusted_wish ++ sym all_lines i) ++ last_line list (record {
              of_old = record { digest = is.digest_old i; skipped = is.skipped_old i };
              of_new = record { digest = is.digest_new i; skipped = is.skipped_new i };
              of_trusted_old = record { digest = other.digest_old i; skipped = other.skipped_old i };
              of_trusted_new = record { digest = other.digest_new i; skipped = other.skipped_new i };
            }) (counted i))
            ∙ sym text_begun

        pub outcome_is : (lines_of_texts list wish trusted_wish old new trusted_old trusted_new).outcome
            ≡ line_outcome found.counts found.compared.skipped_old found.compared.skipped_new
        unfolding lines_of_texts
        outcome_is =
            let is = texts_read old new (compared_read told.read) told_old told_new in
            sym (λ i. line_outcome (counted i) (is.skipped_old i) (is.skipped_new i))

    pub all_sound : {n : Merges R} {f w : DeskView} {found : PairsFound} → ArePairsRead r m n e f v w found
        → AreAllSound limits old new trusted_old trusted_new
    all_sound read = record {
      of_old = (compared_read read).sound Old old told_old;
      of_new = (compared_read read).sound New new told_new;
      of_trusted_old = (trusted_read read).sound Old trusted_old told_trusted_old;
      of_trusted_new = (trusted_read read).sound New trusted_new told_trusted_new;
    }

    -- ---- what has gone out at a fault

    cut_changes : (before after : Option (List ℕ)) (fault : PairFault)
        → BeginsLines (leaves_between list old new) wish trusted_wish (pass_of old new) (pass_of trusted_old trusted_new)
        before after
        → CutsLines limits list wish trusted_wish old new trusted_old trusted_new before after fault
    cut_changes before after (Compared (Open side)) begins = begins
    cut_changes before after (Compared (Database fault)) begins = begins
    cut_changes before after (Compared (Changed side)) begins = begins
    cut_changes before after (Compared (Write written)) begins = (λ sound. begins_whole sound begins, λ unsound. begins)
    cut_changes before after (Trusted fault) begins = begins

    cut_last : (before after : Option (List ℕ)) (fault : PairFault) → IsWrite fault
        → AreAllSound limits old new trusted_old trusted_new
        → SendsPart (lines_of_texts list wish trusted_wish old new trusted_old trusted_new).text before after
        → CutsLines limits list wish trusted_wish old new trusted_old trusted_new before after fault
    cut_last before after (Compared (Open side)) written sound part = absurd written
    cut_last before after (Compared (Database fault)) written sound part = absurd written
    cut_last before after (Compared (Changed side)) written sound part = absurd written
    cut_last before after (Compared (Write bytes)) written sound part = (λ all. part, λ unsound. absurd (unsound sound))
    cut_last before after (Trusted fault) written sound part = absurd written

    pub cut_by : {n : Merges R} {f w : DeskView} (before after : Option (List ℕ)) (fault : PairFault)
        → CutsChanges r list wish trusted_wish m e v before after fault ⊎ CutsLast r list wish trusted_wish m n e f v w before after fault
        → CutsLines limits list wish trusted_wish old new trusted_old trusted_new before after fault
    cut_by before after fault cut = elim cut [
      | inl early ↦ cut_changes before after fault (done_begins list wish trusted_wish old new trusted_old trusted_new
          early.done before after fault early.are early.part of_old of_new of_trusted_old of_trusted_new)
      | inr last ↦
          let sound = all_sound last.told.read in
          cut_last before after fault last.written sound
          (subst (λ text. SendsPart text before after) (told_is sound last.told) last.told.goes)
    ]

    -- ---- the same, by what comes before the first faults

    module _ (fronts : FourTexts) where
      abbrev texts : FourTexts
      texts = record { old = old; new = new; trusted_old = trusted_old; trusted_new = trusted_new }

      fronts_early : (before after : Option (List ℕ)) (fault : PairFault)
          → SendsPart (lines_before_last list wish trusted_wish fronts) before after
          → CutsFronts limits list wish trusted_wish texts fronts before after fault
      fronts_early before after (Compared (Open side)) part = part
      fronts_early before after (Compared (Database fault)) part = part
      fronts_early before after (Compared (Changed side)) part = part
      fronts_early before after (Compared (Write written)) part = λ unsound. part
      fronts_early before after (Trusted fault) part = part

      -- by the maps of what comes before the first faults
      over_maps : AreBeforeFaults limits texts fronts → (before after : Option (List ℕ))
          → BeginsLines (leaves_between list fronts.old fronts.new) wish trusted_wish (pass_of fronts.old fronts.new)
          (pass_of fronts.trusted_old fronts.trusted_new) before after
          → SendsPart (lines_before_last list wish trusted_wish fronts) before after
      over_maps are before after begins =
          let compared = front_is_changes limits old new fronts.old fronts.new are.of_old are.of_new in
          let trusted = front_is_changes limits trusted_old trusted_new fronts.trusted_old fronts.trusted_new are.of_trusted_old
          are.of_trusted_new in
          subst (λ (text : List ℕ). SendsPart text before after) (λ i. first_line wish trusted_wish ++ change_lines wish.options
          (maps_sought (leaves_between list fronts.old fronts.new) fronts.trusted_old fronts.trusted_new trusted i) (sym compared i))
          (begins.sought (maps_sorted fronts.old fronts.new compared))

      fronts_late : (before after : Option (List ℕ)) (fault : PairFault) → IsWrite fault
          → AreAllSound limits old new trusted_old trusted_new
          → CutsFronts limits list wish trusted_wish texts fronts before after fault
      fronts_late before after (Compared (Open side)) written sound = absurd written
      fronts_late before after (Compared (Database fault)) written sound = absurd written
      fronts_late before after (Compared (Changed side)) written sound = absurd written
      fronts_late before after (Compared (Write bytes)) written sound = λ unsound. absurd (unsound sound)
      fronts_late before after (Trusted fault) written sound = absurd written

      pub fronts_by : AreBeforeFaults limits texts fronts → {n : Merges R} {f w : DeskView} (before after : Option (List ℕ))
          (fault : PairFault)
          → CutsChanges r list wish trusted_wish m e v before after fault
          ⊎ CutsLast r list wish trusted_wish m n e f v w before after fault
          → CutsFronts limits list wish trusted_wish texts fronts before after fault
      fronts_by are before after fault cut = elim cut [
        | inl early ↦ fronts_early before after fault (over_maps are before after (done_begins list wish trusted_wish
            fronts.old fronts.new fronts.trusted_old fronts.trusted_new early.done before after fault early.are early.part
            (reads_front r.to_come m.compared e Old (p.opened.limits_of Old) (p.opened.stands Old old told_old) are.of_old)
            (reads_front r.to_come m.compared e New (p.opened.limits_of New) (p.opened.stands New new told_new) are.of_new)
            (reads_front r.to_come m.trusted v Old (q.opened.limits_of Old) (q.opened.stands Old trusted_old told_trusted_old)
            are.of_trusted_old)
            (reads_front r.to_come m.trusted v New (q.opened.limits_of New) (q.opened.stands New trusted_new told_trusted_new)
            are.of_trusted_new)))
        | inr last ↦ fronts_late before after fault last.written (all_sound last.told.read)
      ]
