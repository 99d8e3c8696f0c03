-- A page whose first bytes have been passed on.
use Rattle.std.proofs.Common.{◌≡◌, ◌∙◌, ℕ, ◌+◌, ◌≤◌, List, [], ◌++◌, Option, Some, None, sym, ap, append_assoc, take, drop}
use Rattle.std.proofs.Common.{length}
use Rattle.std.proofs.Math.Path.{subst}
use Rattle.std.proofs.KnownBytes.{append_known-moved}
use Rattle.std.proofs.lemmas.List.{drop-append-le, drop-drop, take-append-drop}
use Rattle.std.specs.Io.KnownBytes.{Appends, Keeps, append_known}
use Rattle.aide_site.specs.Page.{Paged, empty_page}

-- what was sent and what is left are what waited on the page
whole_again : (items : List ℕ) (passed count : ℕ)
    → drop passed items ≡ take count (drop passed items) ++ drop (passed + count) items
whole_again items passed count = sym (take-append-drop count (drop passed items))
    ∙ ap (λ (rest : List ℕ). take count (drop passed items) ++ rest) (drop-drop count passed items)

-- known bytes stay as they are where the first of the page's go on to the sink
pub passed_on : (a b : Option (List ℕ)) (items rest : List ℕ) (passed count : ℕ) → rest ≡ drop passed items
    → Appends a b (take count rest)
    → Keeps (append_known a (drop passed items)) (append_known b (drop (passed + count) items))
passed_on a b items rest passed count is went =
    append_known-moved a b (take count (drop passed items)) (drop (passed + count) items) (drop passed items)
    (subst (λ (waiting : List ℕ). Appends a b (take count waiting)) is went) (whole_again items passed count)

-- known bytes grow by what is put behind the rest of a page
pub page_grows : (sent : Option (List ℕ)) (items more all : List ℕ) (passed : ℕ) → passed ≤ length items
    → all ≡ items ++ more
    → Appends (append_known sent (drop passed items)) (append_known sent (drop passed all)) more
page_grows None items more all passed within is = tt
page_grows (Some bytes) items more all passed within is =
    ap (λ (l : List ℕ). bytes ++ l) (ap (drop passed) is ∙ drop-append-le passed items more within)
    ∙ sym (append_assoc bytes (drop passed items) more)

-- what is seen of a page that was just made
pub made_empty : {W : Type 0} (page : Paged W) (sink : W) → page.sink ≡ sink → page.waiting ≡ [] → page.used ≡ 0
    → page ≡ empty_page sink
made_empty page sink is_sink none is_used = λ i. record { sink = is_sink i; waiting = none i; used = is_used i }
