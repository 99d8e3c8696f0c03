-- One step of a merge.
use Rattle.std.specs.Prelude.{◌≡◌, ◌≢◌, ℕ, List, [], ◌∷◌, ◌++◌, Some, None, IsSome}
use Rattle.std.proofs.Common.{refl, sym, ap, ◌∙◌, arith, ◌+◌, ◌<◌}
use Rattle.std.specs.declared.option.Option.{Option}
use Rattle.std.specs.declared.cmp.Ordering.{Ordering}
use Rattle.std.specs.declared.cmp.Ordering.TheVariants.{Less, Equal, Greater}
use Rattle.aide_fields.specs.Path.{path_cmp}
use Rattle.aide_fields.specs.Attributes.{Attributes, Entry}
use Rattle.aide_merge.specs.Compare.{Change}
use Rattle.aide_merge.specs.declared.change.AtPath.{AtPath}
use Rattle.aide_merge.specs.declared.change.AtPath.TheVariants.{Alike, Differs, End}
use Rattle.aide_merge.specs.declared.merge.NextEntry.{NextEntry}
use Rattle.aide_merge.specs.declared.merge.NextEntry.TheVariants.{Due, Here, Ended}
use Rattle.aide_merge.specs.code.ChangeView.{ShowsPath}
use Rattle.aide_merge.specs.Merged.{weave, merged}
use Rattle.aide_merge.specs.code.NextPath.{change_by, next_change, side_after, old_after, new_after}
use Rattle.aide_merge.specs.code.NextEntry.{ahead, next_entry, work}

-- ---- the entries that were due have been read

-- the changes that are still to come are the same
pub read_gives : (ho0 ho1 hn0 hn1 : NextEntry) (a0 a1 a2 b0 b1 b2 : Option Entry) (ro0 ro1 rn0 rn1 : List Entry)
    → ahead ho1 a1 ro1 ≡ ahead ho0 a0 ro0 → ahead hn1 b2 rn1 ≡ ahead hn0 b1 rn0
    → b1 ≡ b0 → a2 ≡ a1
    → merged path_cmp (ahead ho0 a0 ro0) (ahead hn0 b0 rn0) ≡ merged path_cmp (ahead ho1 a2 ro1) (ahead hn1 b2 rn1)
read_gives ho0 ho1 hn0 hn1 a0 a1 a2 b0 b1 b2 ro0 ro1 rn0 rn1 e1 e2 same_b same_a =
    (λ i. merged path_cmp (sym e1 i) ((ap (λ b. ahead hn0 b rn0) (sym same_b) ∙ sym e2) i))
    ∙ ap (λ a. merged path_cmp (ahead ho1 a ro1) (ahead hn1 b2 rn1)) (sym same_a)

-- ---- the next path is passed on

not_some : IsSome {T = Entry} None → ⊥
not_some h = cc

both_here : (d e : Entry) (olds news : List Entry) (r : Ordering) →
    elim r [
      | Less ↦ (d.0, (Some d.1, None)) ∷ merged path_cmp olds (e ∷ news)
      | Equal ↦ (d.0, (Some d.1, Some e.1)) ∷ merged path_cmp olds news
      | Greater ↦ (e.0, (None, Some e.1)) ∷ weave path_cmp d (merged path_cmp olds) news
    ] ≡ (change_by r d e ∷ []) ++ merged path_cmp (ahead (old_after (change_by r d e ∷ []) Here) (Some d) olds)
    (ahead (new_after (change_by r d e ∷ []) Here) (Some e) news)
both_here d e olds news Less = refl
both_here d e olds news _ = refl

-- what is left of a merge is the change at the next path, and what is left after it
pub merged_step : (old_next new_next : NextEntry) (old new : Option Entry) (olds news : List Entry)
    → (old_next ≢ Due) → (new_next ≢ Due) → (old_next ≡ Here → IsSome old) → (new_next ≡ Here → IsSome new)
    → merged path_cmp (ahead old_next old olds) (ahead new_next new news)
    ≡ next_change (next_entry old_next old) (next_entry new_next new)
    ++ merged path_cmp (ahead (old_after (next_change (next_entry old_next old) (next_entry new_next new)) old_next) old olds)
    (ahead (new_after (next_change (next_entry old_next old) (next_entry new_next new)) new_next) new news)
merged_step Due new_next old new olds news p q f g = absurd (p refl)
merged_step Here Due old new olds news p q f g = absurd (q refl)
merged_step Ended Due old new olds news p q f g = absurd (q refl)
merged_step Ended Ended old new olds news p q f g = refl
merged_step Here Ended None new olds news p q f g = absurd (not_some (f refl))
merged_step Here Ended (Some d) new olds news p q f g = refl
merged_step Ended Here old None olds news p q f g = absurd (not_some (g refl))
merged_step Ended Here old (Some e) olds news p q f g = refl
merged_step Here Here None new olds news p q f g = absurd (not_some (f refl))
merged_step Here Here (Some d) None olds news p q f g = absurd (not_some (g refl))
merged_step Here Here (Some d) (Some e) olds news p q f g = both_here d e olds news (path_cmp d.0 e.0)

-- a step that passes on a change leaves less work
falls_at : (d e : Entry) (r : Ordering) (m n : ℕ)
    → work (old_after (change_by r d e ∷ []) Here) m + work (new_after (change_by r d e ∷ []) Here) n < work Here m + work Here n
falls_at d e Less m n = omega arith
falls_at d e _ m n = omega arith

pub step_falls : (old_next new_next : NextEntry) (old new : Option Entry) (m n : ℕ)
    → (old_next ≢ Due) → (new_next ≢ Due) → (next_change (next_entry old_next old) (next_entry new_next new) ≢ [])
    → work (old_after (next_change (next_entry old_next old) (next_entry new_next new)) old_next) m
    + work (new_after (next_change (next_entry old_next old) (next_entry new_next new)) new_next) n < work old_next m + work new_next n
step_falls Due new_next old new m n p q going = absurd (p refl)
step_falls Here Due old new m n p q going = absurd (q refl)
step_falls Ended Due old new m n p q going = absurd (q refl)
step_falls Ended Ended old new m n p q going = absurd (going refl)
step_falls Here Ended None new m n p q going = absurd (going refl)
step_falls Here Ended (Some d) new m n p q going = omega arith
step_falls Ended Here old None m n p q going = absurd (going refl)
step_falls Ended Here old (Some e) m n p q going = omega arith
step_falls Here Here None None m n p q going = absurd (going refl)
step_falls Here Here None (Some e) m n p q going = omega arith
step_falls Here Here (Some d) None m n p q going = omega arith
step_falls Here Here (Some d) (Some e) m n p q going = falls_at d e (path_cmp d.0 e.0) m n

-- a side that has not passed on its entry is where it was
after_kept : (shown : Option Attributes) (next at : NextEntry) → (at ≢ Due) → side_after shown next ≡ at → next ≡ at
after_kept None next at not_due is = is
after_kept (Some attributes) next at not_due is = absurd (not_due (sym is))

pub old_kept : (changes : List (Change (List ℕ) Attributes)) (next at : NextEntry) → (at ≢ Due)
    → old_after changes next ≡ at → next ≡ at
old_kept [] next at not_due is = is
old_kept (change ∷ changes) next at not_due is = after_kept change.1.0 next at not_due is

pub new_kept : (changes : List (Change (List ℕ) Attributes)) (next at : NextEntry) → (at ≢ Due)
    → new_after changes next ≡ at → next ≡ at
new_kept [] next at not_due is = is
new_kept (change ∷ changes) next at not_due is = after_kept change.1.1 next at not_due is

-- ---- the end

-- only at the end is there no change
pub some_change : (path : AtPath) (changes : List (Change (List ℕ) Attributes)) → ShowsPath path changes
    → (path ≢ End) → changes ≢ []
some_change Alike changes is going none = let one = is.only in cc
some_change (Differs change) changes is going none = cc
some_change End changes is going none = going refl

pub no_change : (path : AtPath) (changes : List (Change (List ℕ) Attributes)) → ShowsPath path changes
    → path ≡ End → changes ≡ []
no_change End changes is at_end = is
no_change _ changes is at_end = cc

-- where no change is left both sides have ended
pub ended_at : (old_next new_next : NextEntry) (old new : Option Entry)
    → (old_next ≢ Due) → (new_next ≢ Due) → (old_next ≡ Here → IsSome old) → (new_next ≡ Here → IsSome new)
    → next_change (next_entry old_next old) (next_entry new_next new) ≡ []
    → (old_next ≡ Ended) × (new_next ≡ Ended)
ended_at Due new_next old new p q f g none = absurd (p refl)
ended_at Here Due old new p q f g none = absurd (q refl)
ended_at Ended Due old new p q f g none = absurd (q refl)
ended_at Ended Ended old new p q f g none = (refl, refl)
ended_at Here Ended None new p q f g none = absurd (not_some (f refl))
ended_at Here Ended (Some d) new p q f g none = cc
ended_at Ended Here old None p q f g none = absurd (not_some (g refl))
ended_at Ended Here old (Some e) p q f g none = cc
ended_at Here Here None new p q f g none = absurd (not_some (f refl))
ended_at Here Here (Some d) None p q f g none = absurd (not_some (g refl))
ended_at Here Here (Some d) (Some e) p q f g none = cc

-- and nothing is left to give
pub end_gives : (old_next new_next : NextEntry) (old new : Option Entry) (olds news : List Entry)
    → (old_next ≡ Ended) × (new_next ≡ Ended)
    → merged path_cmp (ahead old_next old olds) (ahead new_next new news) ≡ []
end_gives old_next new_next old new olds news both i = merged path_cmp (ahead (both.0 i) old olds) (ahead (both.1 i) new news)
