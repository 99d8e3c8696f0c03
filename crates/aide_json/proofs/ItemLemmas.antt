-- Texts with commas between them, one after another.
use Rattle.std.proofs.Common.{◌≡◌, ◌∙◌, ℕ, Bool, true, false, ◌&&◌, not, cond, if◌then◌else◌, List, [], ◌∷◌, ◌++◌, map, refl, sym, ap}
use Rattle.std.proofs.Common.{append_assoc, rules}
use Rattle.std.proofs.lemmas.List.{append-nil}
use Rattle.std.specs.List.{filter}
use Rattle.aide_json.specs.Object.{behind, comma, joined}
use Rattle.aide_json.specs.Value.{Member, Value, print, print_member, texts_of, value_texts, values_of}
use Rattle.aide_json.specs.code.Items.{joined_on, items_from, next_item}

pub item_wanted : (wanted first : Bool) (text : List ℕ) → wanted ≡ true → comma first ++ text ≡ next_item wanted first text
unfolding next_item
item_wanted wanted first text e = sym (ap (λ (b : Bool). if b then comma first ++ text else []) e)

pub item_unwanted : (wanted first : Bool) (text : List ℕ) → wanted ≡ false → [] ≡ next_item wanted first text
unfolding next_item
item_unwanted wanted first text e = sym (ap (λ (b : Bool). if b then comma first ++ text else []) e)

module _ {X : Type 0} (wants : X → Bool) (text : X → List ℕ) where
  by_wanted : (first wanted : Bool) (x : X) (rest : List X)
      → joined_on first (map text (cond wanted (x ∷ filter wants rest) (filter wants rest)))
      ≡ next_item wanted first (text x) ++ joined_on (first && not wanted) (map text (filter wants rest))
  unfolding next_item
  by_wanted true true x rest = refl
  by_wanted true false x rest = refl
  by_wanted false true x rest = refl
  by_wanted false false x rest = refl

  items_first : (first : Bool) (x : X) (rest : List X)
      → items_from first wants text (x ∷ rest) ≡ next_item (wants x) first (text x) ++ items_from (first && not (wants x)) wants text rest
  unfolding items_from
  items_first first x rest = by_wanted first (wants x) x rest

  -- the first one of some, and what comes behind it
  pub items_more : (first wanted later : Bool) (xs : List X) (x : X) (rest : List X) → xs ≡ x ∷ rest → wanted ≡ wants x → later
      ≡ (first && not wanted)
      → items_from first wants text xs ≡ next_item wanted first (text x) ++ items_from later wants text rest
  items_more first wanted later xs x rest is e f = search (rules, items_first)

  -- none is left
  pub items_end : (first : Bool) (xs : List X) → xs ≡ [] → items_from first wants text xs ≡ []
  unfolding items_from
  items_end first xs none = search rules

  -- all from the beginning, by an equal test
  pub items_as : (p : X → Bool) (xs : List X) → ((x : X) → p x ≡ wants x) → items_from true p text xs ≡ joined (map text (filter wants xs))
  unfolding items_from
  items_as p xs same i = joined (map text (filter (λ x. same x i) xs))

pub behind_one : (text : List ℕ) → 44 ∷ text ≡ behind (text ∷ [])
behind_one text = sym (append-nil (44 ∷ text))

pub behind_both : (xs ys : List Member) → behind (texts_of (xs ++ ys)) ≡ behind (texts_of xs) ++ behind (texts_of ys)
behind_both [] ys = refl
behind_both (x ∷ xs) ys =
    ap (λ l. (44 ∷ print_member x) ++ l) (behind_both xs ys)
    ∙ sym (append_assoc (44 ∷ print_member x) (behind (texts_of xs)) (behind (texts_of ys)))

pub texts_mapped : {X : Type 0} (of : X → Value) (xs : List X) → map (λ x. print (of x)) xs ≡ value_texts (values_of (map of xs))
texts_mapped of [] = refl
texts_mapped of (x ∷ xs) = ap (λ l. print (of x) ∷ l) (texts_mapped of xs)
