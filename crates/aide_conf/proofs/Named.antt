-- What is read to be compared names both databases.
use Rattle.std.proofs.Common.{◌∙◌, rules, ℕ, ◌≡◌, ◌+◌, Bool, true, false, List, [], ◌∷◌, ◌++◌, Option, Some, None, Ok, refl}
use Rattle.std.proofs.Common.{sym, ap, subst, append_assoc}
use Rattle.std.specs.Prelude.{map, is_none, IsSome}
use Rattle.std.specs.Option.{option_or}
use Rattle.aide_conf.specs.declared.fault.ConfFaultKind.{ConfFaultKind}
use Rattle.aide_conf.specs.declared.fault.ConfText.TheVariants.{Before, File, After}
use Rattle.aide_conf.specs.declared.option_kind.Side.TheVariants.{Old, New}
use Rattle.aide_conf.specs.declared.task.Need.TheVariants.{Compare}
use Rattle.aide_conf.specs.ReadResult.{ReadsAs}
use Rattle.aide_conf.specs.Cutting.{Place, places_from, places_of, lines_of}
use Rattle.aide_conf.specs.Marks.{Marked, says}
use Rattle.aide_conf.specs.MarkedPaths.{path_set}
use Rattle.aide_conf.specs.code.PlaceFault.{place_fault, missing}
use Rattle.aide_conf.proofs.FaultOrderLemmas.{first_of_place}
use Rattle.aide_conf.specs.RightMarks.{AreSound}
use Rattle.aide_conf.specs.Settings.{Configured}
use Rattle.aide_conf.proofs.Steps.{last_given-same}

abbrev places_in : List Marked → List Place
places_in lines = map (λ (x : Marked). x.place) lines

-- both databases are named
abbrev AreNamed : List Marked → Type 0
AreNamed lines = IsSome (path_set Old lines) × IsSome (path_set New lines)

some_path : (path : Option (List ℕ)) → is_none path ≡ false → IsSome path
some_path None e = cc
some_path (Some path) e = refl

none_missing : (no_old no_new : Bool) → missing no_old no_new ≡ None → (no_old ≡ false) × (no_new ≡ false)
none_missing true no_new e = cc
none_missing false true e = cc
none_missing false false e = (refl, refl)

no_later : (first later : Option ConfFaultKind) → option_or first later ≡ None → later ≡ None
no_later None later e = e
no_later (Some kind) later e = cc

-- at the end of the last text, where it has no fault
at_end : (earlier : List Marked) (x : Marked) → x.place.line ≡ None → x.place.text ≡ After
    → place_fault Compare earlier x x.place.line ≡ None → AreNamed (earlier ++ x ∷ [])
unfolding says
at_end earlier x no_line text sound = search (rules, none_missing, no_later, last_given-same, some_path)

-- behind the last text
behind_last : (ls : List (List ℕ)) (n : ℕ) (earlier lines : List Marked) → places_in lines ≡ places_from After n ls
    → AreSound Compare earlier lines
    → AreNamed (earlier ++ lines)
behind_last [] n earlier [] e sound = cc
behind_last [] n earlier (x ∷ []) e sound =
    let is : x.place ≡ record { text = After; number = n; line = None } = cc in
    at_end earlier x (ap (λ (p : Place). p.line) is) (ap (λ (p : Place). p.text) is)
    (first_of_place Compare earlier x sound.0 ∙ sound.1)
behind_last [] n earlier (x ∷ y ∷ lines) e sound = cc
behind_last (l ∷ ls) n earlier [] e sound = cc
behind_last (l ∷ ls) n earlier (x ∷ lines) e sound =
    let tail : places_in lines ≡ places_from After (n + 1) ls = cc in
    subst AreNamed (append_assoc earlier (x ∷ []) lines) (behind_last ls (n + 1) (earlier ++ x ∷ []) lines tail sound.2)

-- behind the last of several texts
behind_all : (ps : List Place) (ls : List (List ℕ)) (n : ℕ) (earlier lines : List Marked)
    → places_in lines ≡ ps ++ places_from After n ls → AreSound Compare earlier lines
    → AreNamed (earlier ++ lines)
behind_all [] ls n earlier lines e sound = behind_last ls n earlier lines e sound
behind_all (p ∷ ps) ls n earlier [] e sound = cc
behind_all (p ∷ ps) ls n earlier (x ∷ lines) e sound =
    let tail : places_in lines ≡ ps ++ places_from After n ls = cc in
    subst AreNamed (append_assoc earlier (x ∷ []) lines) (behind_all ps ls n (earlier ++ x ∷ []) lines tail sound.2)

pub both_named : (before file after : List ℕ) (c : Configured) → ReadsAs Compare before file after (Ok c)
    → IsSome c.old_path × IsSome c.new_path
both_named before file after c read =
    let first = places_of Before before in
    let second = places_of File file in
    let named = behind_all (first ++ second) (lines_of after) 1 [] read.lines read.all read.sound in
    (subst IsSome (sym read.settings.old_path) named.0, subst IsSome (sym read.settings.new_path) named.1)
