-- The file added last counts.
use Rattle.std.proofs.Common.{◌≡◌, ◌≢◌, ◌∙◌, ℕ, ◌+◌, ◌<◌, List, [], ◌∷◌, ◌++◌, Option, Some, None, Bool, true, false}
use Rattle.std.proofs.Common.{if◌then◌else◌, refl, sym, ap, ap₂, take, get_or, length, rules}
use Rattle.std.proofs.Math.Path.{subst}
use Rattle.std.specs.Str.{bytes_eq}
use Rattle.std.specs.Cmp.Lexicographic.{bytes_decides}
use Rattle.std.proofs.Math.Seq.{take-add}
use Rattle.std.proofs.lemmas.List.{drop_more}
use Rattle.aide_db.specs.Side.{by_side}
use Rattle.aide_db.specs.declared.side.Side.{Side}
use Rattle.aide_site.specs.Files.{GivesFile}
use Rattle.aide_site.specs.Sites.{Shelf, aim_bytes, bytes_at, either, of_file, side_bytes}
use Rattle.aide_site.specs.declared.pointed.Aim.{Aim}

either_none : (o : Option (List ℕ)) → o ≡ either o None
either_none None = refl
either_none (Some x) = refl

either_either : (a b c : Option (List ℕ)) → either (either a b) c ≡ either a (either b c)
either_either None b c = refl
either_either (Some x) b c = refl

pub bytes_snoc : (files : List (List ℕ × List ℕ)) (file : List ℕ × List ℕ) (path : List ℕ)
    → bytes_at (files ++ file ∷ []) path ≡ either (of_file file path) (bytes_at files path)
unfolding bytes_at
bytes_snoc [] file path = either_none (of_file file path)
bytes_snoc (f ∷ files) file path =
    ap (λ (o : Option (List ℕ)). either o (of_file f path)) (bytes_snoc files file path)
    ∙ either_either (of_file file path) (bytes_at files path) (of_file f path)

pub bytes_more : (files : List (List ℕ × List ℕ)) (i : ℕ) (d : List ℕ × List ℕ) (path : List ℕ) → i < length files
    → bytes_at (take (i + 1) files) path ≡ either (of_file (get_or files i d) path) (bytes_at (take i files) path)
bytes_more files i d path h =
    ap (λ (l : List (List ℕ × List ℕ)). bytes_at l path)
    (take-add i 1 files ∙ ap (λ (l : List (List ℕ × List ℕ)). take i files ++ take 1 l) (drop_more files i d h))
    ∙ bytes_snoc (take i files) (get_or files i d) path

pub bytes_none : (path : List ℕ) → None ≡ bytes_at [] path
unfolding bytes_at
bytes_none path = refl

bytes_eq_self : (path : List ℕ) → bytes_eq path path ≡ true
bytes_eq_self path = (bytes_decides path path).1 refl

false_from : (b : Bool) → (b ≡ true → ⊥) → b ≡ false
false_from true denied = absurd (denied refl)
false_from false denied = refl

bytes_eq_other : (a b : List ℕ) → a ≢ b → bytes_eq a b ≡ false
bytes_eq_other a b apart = false_from (bytes_eq a b) (λ same. apart ((bytes_decides a b).0 same))

pub added_here : (files : List (List ℕ × List ℕ)) (path bytes : List ℕ)
    → bytes_at (files ++ (path, bytes) ∷ []) path ≡ Some bytes
added_here files path bytes = search (rules, bytes_snoc, bytes_eq_self)

pub added_elsewhere : (files : List (List ℕ × List ℕ)) (path bytes other : List ℕ) → other ≢ path
    → bytes_at (files ++ (path, bytes) ∷ []) other ≡ bytes_at files other
added_elsewhere files path bytes other apart =
    bytes_snoc files (path, bytes) other ∙ ap (λ (b : Bool). either (if b then Some bytes else None) (bytes_at files other))
    (bytes_eq_other path other (λ same. apart (sym same)))

-- what a side gives, by files and an aim that are equal
pub found_at : (files same_files : List (List ℕ × List ℕ)) (aim same_aim : Aim) (found : Option (List ℕ))
    → files ≡ same_files → aim ≡ same_aim → found ≡ aim_bytes files aim → aim_bytes same_files same_aim ≡ found
found_at files same_files aim same_aim found is_files is_aim is =
    sym (is ∙ ap₂ (λ (l : List (List ℕ × List ℕ)) (a : Aim). aim_bytes l a) is_files is_aim)

-- what was found at a path of a site, whose view is that of its files
pub found_in : (view site : Shelf) (files : List (List ℕ × List ℕ)) (path : List ℕ) (found : Option (List ℕ))
    → files ≡ view.files → view ≡ site → found ≡ bytes_at files path → bytes_at site.files path ≡ found
found_in view site files path found is_files is_view is =
    sym (is ∙ ap (λ (l : List (List ℕ × List ℕ)). bytes_at l path) (is_files ∙ ap (λ (s : Shelf). s.files) is_view))

-- what a side of a site gives
pub found_on_side : (view site : Shelf) (side : Side) (files : List (List ℕ × List ℕ)) (old_aim new_aim aim : Aim) (found : Option (List ℕ))
    → files ≡ view.files → old_aim ≡ view.old_aim → new_aim ≡ view.new_aim → view ≡ site
    → aim ≡ by_side old_aim new_aim side → found ≡ aim_bytes files aim → side_bytes site side ≡ found
found_on_side view site side files old_aim new_aim aim found is_files is_old is_new is_view is_aim is = search (rules, found_at)

-- a reel over the bytes that were found gives the file that is known
pub gives_found : (there : Option (List ℕ)) (bytes : List ℕ) (file : Option (List ℕ)) → there ≡ Some bytes
    → Some there ≡ Some file → GivesFile file (Some bytes)
gives_found there bytes file is known =
    let same : Some bytes ≡ file = cc in subst (λ (f : Option (List ℕ)). GivesFile f (Some bytes)) same refl
