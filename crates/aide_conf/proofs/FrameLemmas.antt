-- The innermost block is the last of those that the code keeps.
use Rattle.std.proofs.Common.{ℕ, ◌-◌, ◌<◌, ◌≡◌, true, List, [], ◌∷◌, ◌++◌, length, reverse, get_or, set, sym, ap, ◌∙◌}
use Rattle.std.proofs.Common.{arith, subst}
use Rattle.std.proofs.lemmas.List.{reverse-append, reverse-reverse, length-reverse}
use Rattle.std.proofs.Math.Seq.{set-append_seam, get_or-append_seam}
use Rattle.aide_conf.specs.declared.blocks.Frame.{Frame}
use Rattle.aide_conf.specs.code.Stack.{divided_at}

second : Frame → Frame
second f = record f { second = true }

-- said of the list turned round
turned : (fs : List Frame) (f d : Frame) → 0 < length fs → get_or (reverse fs) (length (reverse fs) - 1) d ≡ f
    → reverse (set (reverse fs) (length (reverse fs) - 1) (second f)) ≡ divided_at fs
unfolding second
turned [] f d some e = absurd (omega arith)
turned (g ∷ fs) f d some e =
    let parts : reverse (g ∷ fs) ≡ reverse fs ++ g ∷ [] = reverse-append (g ∷ []) fs in
    let last : length (reverse (g ∷ fs)) - 1 ≡ length (reverse fs) = omega (arith, length-reverse (g ∷ fs), length-reverse fs) in
    let same : g ≡ f = sym (get_or-append_seam (reverse fs) g [] d) ∙ sym (ap (λ xs. get_or xs (length (reverse fs)) d) parts)
    ∙ sym (ap (λ n. get_or (reverse (g ∷ fs)) n d) last) ∙ e in
    ap (λ n. reverse (set (reverse (g ∷ fs)) n (second f))) last
    ∙ ap (λ xs. reverse (set xs (length (reverse fs)) (second f))) parts
    ∙ ap reverse (set-append_seam (reverse fs) g [] (second f))
    ∙ reverse-append (reverse fs) (second f ∷ [])
    ∙ ap (λ xs. second f ∷ xs) (reverse-reverse fs)
    ∙ ap (λ h. second h ∷ fs) (sym same)

pub divided_last : (xs : List Frame) (n : ℕ) (f d : Frame) → n ≡ length xs → 0 < n → get_or xs (n - 1) d ≡ f
    → reverse (set xs (n - 1) (record f { second = true })) ≡ divided_at (reverse xs)
unfolding second
divided_last xs n f d long some e =
    subst (λ ys. n ≡ length ys → get_or ys (n - 1) d ≡ f → reverse (set ys (n - 1) (second f)) ≡ divided_at (reverse xs))
    (reverse-reverse xs)
    (λ h. subst (λ m. 0 < m → get_or (reverse (reverse xs)) (m - 1) d ≡ f → reverse (set (reverse (reverse xs)) (m - 1) (second f))
    ≡ divided_at (reverse xs)) (sym h)
    (λ more k. turned (reverse xs) f d (omega (arith, more, length-reverse (reverse xs))) k) some) long e
