-- Bytes of a chunk, behind those that were used.
use Rattle.std.proofs.Common.{◌≡◌, ℕ, ◌+◌, ◌-◌, ◌≤◌, List, take, drop, sym, ap, ◌∙◌, arith}
use Rattle.std.proofs.lemmas.List.{drop-take, drop-drop}

pub skipped : (start end count : ℕ) (chunk : List ℕ) → start + count ≤ end
    → take (end - (start + count)) (drop (start + count) chunk) ≡ drop count (take (end - start) (drop start chunk))
skipped start end count chunk le =
    let n : end - start ≡ count + (end - (start + count)) = omega (arith, le) in
    sym (ap (λ k. drop count (take k (drop start chunk))) n
    ∙ (drop-take count (end - (start + count)) (drop start chunk) ∙ ap (take (end - (start + count))) (drop-drop count start chunk)))
