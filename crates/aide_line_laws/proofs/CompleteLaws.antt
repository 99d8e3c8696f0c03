-- Which lines are complete: lines without their last one never begin with complete lines.
use Rattle.std.proofs.Common.{◌≡◌, ◌∙◌, ℕ, List, [], ◌∷◌, ◌++◌, map, Option, Some, None, sym, ap, subst}
use Rattle.std.proofs.lemmas.List.{append_cancel_left}
use Rattle.std.specs.Prelude.{codes}
use Rattle.std.specs.List.{AllByRecursion}
use Rattle.aide_conf.specs.declared.options.Options.{Options}
use Rattle.aide_line_run.specs.ChangeLines.{Accounts}
use Rattle.aide_merge.specs.Said.{PathChange}
use Rattle.aide_text.specs.Sent.{SendsPart}
use Rattle.aide_line_laws.specs.Complete.{AreComplete, IsLast}
use Rattle.aide_line_laws.specs.Field.{Field}
use Rattle.aide_line_laws.specs.JsonLine.{AreJsonLines}
use Rattle.aide_line_laws.specs.Reading.{value_under}
use Rattle.aide_line_laws.specs.TextFields.{change_fields}
use Rattle.aide_line_laws.proofs.Cutting.{first_members}
use Rattle.aide_line_laws.proofs.ReadingLaws.{no_change_is_the_end}

pub complete_by : (all : List (List Field)) (last : List Field) → IsLast last → AreComplete (all ++ last ∷ [])
complete_by [] last h = h
complete_by (fields ∷ []) last h = h
complete_by (fields ∷ next ∷ all) last h = complete_by (next ∷ all) last h

-- the line is no last one
abbrev pub IsNoEnd : List Field → Type 0
IsNoEnd fields = value_under (codes "end") fields ≡ None

never_complete : (all behind : List (List Field)) → AreComplete all → AllByRecursion IsNoEnd (all ++ behind) → ⊥
never_complete [] behind h k = h
never_complete (fields ∷ []) behind h k = cc (h, k.0)
never_complete (fields ∷ next ∷ all) behind h k = never_complete (next ∷ all) behind h k.1

pub no_end : (options : Options) (account : Accounts) (all : List PathChange)
    → AllByRecursion IsNoEnd (map (change_fields options account) all)
no_end options account [] = tt
no_end options account (change ∷ all) = (no_change_is_the_end options account change, no_end options account all)

-- Lines of which none is a last one do not begin with complete lines.
pub never_begins : (begun : List ℕ) (fields : List (List Field)) → AreJsonLines begun fields → AllByRecursion IsNoEnd fields
    → (whole rest : List ℕ) (all : List (List Field)) → AreJsonLines whole all → AreComplete all → begun ≡ whole ++ rest → ⊥
never_begins begun fields lines ends whole rest all h complete e =
    let found = first_members whole begun rest all fields h lines e in
    never_complete all found.0 complete (subst (AllByRecursion IsNoEnd) found.1 ends)

last_of_all : (begun : List (List Field)) (last : List Field) (all behind : List (List Field)) → AllByRecursion IsNoEnd begun
    → AreComplete all → begun ++ last ∷ [] ≡ all ++ behind → behind ≡ []
last_of_all begun last [] behind h k e = absurd k
last_of_all [] last (fields ∷ []) behind h k e = cc
last_of_all (next ∷ begun) last (fields ∷ []) behind h k e = absurd (cc (h.0, k, e))
last_of_all [] last (fields ∷ other ∷ all) behind h k e = absurd (cc e)
last_of_all (next ∷ begun) last (fields ∷ other ∷ all) behind h k e =
    last_of_all begun last (other ∷ all) behind h.1 k (cc e)

-- Lines of which only the last one is a last line do not begin with other complete lines.
pub only_all : (text : List ℕ) (begun : List (List Field)) (last : List Field) → AreJsonLines text (begun ++ last ∷ [])
    → AllByRecursion IsNoEnd begun
    → (whole rest : List ℕ) (all : List (List Field)) → AreJsonLines whole all → AreComplete all → text ≡ whole ++ rest
    → rest ≡ []
only_all text begun last lines ends whole rest all h complete e =
    let found = first_members whole text rest all (begun ++ last ∷ []) h lines e in
    rw (last_of_all begun last all found.0 ends complete found.1) at found.2

-- what was sent is the beginning of a text of which a part was sent
pub sent_begins : (text before sent : List ℕ) (o p : Option (List ℕ)) → SendsPart text o p → o ≡ Some before
    → p ≡ Some (before ++ sent) → (rest : List ℕ) × (text ≡ sent ++ rest)
sent_begins text before sent o p part was is =
    let known : SendsPart text (Some before) (Some (before ++ sent)) = rw (was, is) at part in
    (known.rest, known.whole ∙ ap (λ t. t ++ known.rest) (sym (append_cancel_left before sent known.front known.bytes)))
