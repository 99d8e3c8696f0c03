-- The sections that have an entry, one after another.
use Rattle.std.proofs.Common.{◌≡◌, ◌∙◌, ℕ, ◌+◌, ◌<◌, ◌≤◌, Bool, true, false, cond, List, [], ◌∷◌, ◌++◌, length, take}
use Rattle.std.proofs.Common.{drop, get_or, refl, sym, ap, append-nil, length-append, arith, rules}
use Rattle.std.specs.List.{flat_map, filter}
use Rattle.std.proofs.lemmas.List.{drop_more, drop_all, take_more, take_all, take-append-drop}
use Rattle.std.proofs.lemmas.List.Elements.{filter-append}
use Rattle.std.specs.Prelude.{if◌then◌else◌, ◌&&◌, max}
use Rattle.aide_conf.specs.declared.options.Options.{Options}
use Rattle.aide_db.specs.declared.side.Side.{Side}
use Rattle.aide_merge.specs.Openings.{OpensExactly, OpensAtMost}
use Rattle.aide_text.specs.Overview.{differs}
use Rattle.aide_report_specs.specs.Report.{is_silent, section_count}
use Rattle.aide_report_specs.specs.Sections.{sections_of}
use Rattle.aide_text.specs.Section.{all_sections, fits, grouped_of}
use Rattle.aide_text.specs.declared.counts.Counts.{Counts}

module _ {X : Type 0} (h : X → Bool) where
  filter_yes : (x : X) (xs : List X) → h x ≡ true → filter h (x ∷ xs) ≡ x ∷ filter h xs
  filter_yes x xs e = ap (λ b. cond b (x ∷ filter h xs) (filter h xs)) e

  filter_no : (x : X) (xs : List X) → h x ≡ false → filter h (x ∷ xs) ≡ filter h xs
  filter_no x xs e = ap (λ b. cond b (x ∷ filter h xs) (filter h xs)) e

  -- the next one passes
  pub rest_yes : (f : X → List ℕ) (xs : List X) (i : ℕ) (d : X) → i < length xs → h (get_or xs i d) ≡ true
      → flat_map f (filter h (drop i xs)) ≡ f (get_or xs i d) ++ flat_map f (filter h (drop (i + 1) xs))
  rest_yes f xs i d less e = ap (λ ys. flat_map f (filter h ys)) (drop_more xs i d less)
      ∙ ap (flat_map f) (filter_yes (get_or xs i d) (drop (i + 1) xs) e)

  -- the next one does not pass
  pub rest_no : (f : X → List ℕ) (xs : List X) (i : ℕ) (d : X) → i < length xs → h (get_or xs i d) ≡ false
      → flat_map f (filter h (drop i xs)) ≡ flat_map f (filter h (drop (i + 1) xs))
  rest_no f xs i d less e = ap (λ ys. flat_map f (filter h ys)) (drop_more xs i d less)
      ∙ ap (flat_map f) (filter_no (get_or xs i d) (drop (i + 1) xs) e)

  pub rest_end : (f : X → List ℕ) (xs : List X) (i : ℕ) → length xs ≤ i → flat_map f (filter h (drop i xs)) ≡ []
  rest_end f xs i past = ap (λ ys. flat_map f (filter h ys)) (drop_all i xs past)

  -- how many of the first ones pass
  pub passed : List X → ℕ → ℕ
  passed xs i = length (filter h (take i xs))

  pub passed_yes : (xs : List X) (i : ℕ) (d : X) → i < length xs → h (get_or xs i d) ≡ true
      → passed xs (i + 1) ≡ passed xs i + 1
  unfolding passed
  passed_yes xs i d less e =
      ap (λ ys. length (filter h ys)) (take_more xs i d less)
      ∙ ap length (filter-append h (take i xs) (get_or xs i d ∷ [])
      ∙ ap (λ ys. filter h (take i xs) ++ ys) (filter_yes (get_or xs i d) [] e))
      ∙ length-append (filter h (take i xs)) (get_or xs i d ∷ [])

  pub passed_no : (xs : List X) (i : ℕ) (d : X) → i < length xs → h (get_or xs i d) ≡ false
      → passed xs (i + 1) ≡ passed xs i
  unfolding passed
  passed_no xs i d less e =
      ap (λ ys. length (filter h ys)) (take_more xs i d less)
      ∙ ap length (filter-append h (take i xs) (get_or xs i d ∷ [])
      ∙ ap (λ ys. filter h (take i xs) ++ ys) (filter_no (get_or xs i d) [] e))
      ∙ ap length (append-nil (filter h (take i xs)))

  pub passed_none : (xs : List X) → passed xs 0 ≡ 0
  unfolding passed
  passed_none xs = refl

  pub passed_all : (xs : List X) (i : ℕ) → length xs ≤ i → passed xs i ≡ length (filter h xs)
  unfolding passed
  passed_all xs i past = ap (λ ys. length (filter h ys)) (take_all i xs past)

  -- no more pass of the first ones than of all
  pub passed_some : (xs : List X) (i : ℕ) → passed xs i ≤ length (filter h xs)
  unfolding passed
  passed_some xs i =
      let e : length (filter h xs) ≡ length (filter h (take i xs)) + length (filter h (drop i xs)) =
      ap (λ ys. length (filter h ys)) (sym (take-append-drop i xs)) ∙ ap length (filter-append h (take i xs) (drop i xs))
      ∙ length-append (filter h (take i xs)) (filter h (drop i xs)) in
      omega arith

-- ---- openings, one call after another

pub opens_none : (a : Side → ℕ) (n : ℕ) → n ≡ 0 → OpensExactly a a n
opens_none a n none = record { of_old = omega arith; of_new = omega arith }

pub opens_more : (a b c : Side → ℕ) (m n k : ℕ) → k ≡ m + n → OpensExactly a b m → OpensExactly b c n
    → OpensExactly a c k
opens_more a b c m n k is p q =
    record { of_old = omega (arith, p.of_old, q.of_old); of_new = omega (arith, p.of_new, q.of_new) }

-- at most that often, and so at most more often
pub opens_within : (before after : Side → ℕ) (m k : ℕ) → m ≤ k → OpensAtMost before after m → OpensAtMost before after k
opens_within before after m k le p = record { of_old = omega (arith, le, p.of_old); of_new = omega (arith, le, p.of_new) }

pub opens_then : (a b c : Side → ℕ) (m n k : ℕ) → m + n ≤ k → OpensExactly a b m → OpensAtMost b c n → OpensAtMost a c k
opens_then a b c m n k less p q =
    record { of_old = omega (arith, p.of_old, q.of_old); of_new = omega (arith, p.of_new, q.of_new) }

-- ---- how many sections there are

module _ {X : Type 0} where
  no_fewer : (a b : Bool) (x : X) (xs ys : List X) → (a ≡ true → b ≡ true) → length xs ≤ length ys
      → length (cond a (x ∷ xs) xs) ≤ length (cond b (x ∷ ys) ys)
  no_fewer true true x xs ys h e = omega (arith, e)
  no_fewer true false x xs ys h e = let n = h refl in cc
  no_fewer false true x xs ys h e = omega (arith, e)
  no_fewer false false x xs ys h e = omega (arith, e)

  -- where each item that passes one test passes another, no fewer pass this one
  wider : (p q : X → Bool) → ((x : X) → p x ≡ true → q x ≡ true) → (xs : List X)
      → length (filter p xs) ≤ length (filter q xs)
  wider p q h [] = omega arith
  wider p q h (x ∷ xs) = no_fewer (p x) (q x) x (filter p xs) (filter q xs) (h x) (wider p q h xs)

-- how many sections want lists that are grouped, or that are not
unfoldable pub fitting : Bool → ℕ
fitting grouped = length (filter (λ section. fits (grouped_of section) grouped) all_sections)

-- the most sections that a report has
unfoldable pub most_sections : ℕ
most_sections = max (fitting true) (fitting false)

fitting_few : (grouped : Bool) → fitting grouped ≤ most_sections
unfolding most_sections
fitting_few true = omega arith
fitting_few false = omega arith

middle : (a b c : Bool) → (a && b) && c ≡ true → b ≡ true
middle true true c e = refl
middle true false c e = cc
middle false b c e = cc

there_fits : (options : Options) (counts : Counts) → length (sections_of options counts) ≤ fitting options.grouped
unfolding fitting
there_fits options counts = search (rules, wider, middle)

by_silent : (options : Options) (counts : Counts) (silent : Bool)
    → (if silent then 0 else length (sections_of options counts)) ≤ most_sections
by_silent options counts true = omega arith
by_silent options counts false = omega (arith, there_fits options counts, fitting_few options.grouped)

-- with two more, no report has more sections than the most
pub sections_few : (options : Options) (counts : Counts) (most : ℕ) → 2 + most_sections ≤ most
    → 2 + section_count options counts ≤ most
sections_few options counts most h =
    omega (arith, h, by_silent options counts (is_silent options (differs counts)))
