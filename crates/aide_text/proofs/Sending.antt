-- What has gone out, piece by piece.
use Rattle.std.proofs.Common.{◌≡◌, ◌∙◌, ℕ, ◌+◌, List, [], ◌++◌, take, drop, sym, append_assoc, rules}
use Rattle.std.specs.Prelude.{Option, Some, None}
use Rattle.std.proofs.Math.Seq.{take-add}
use Rattle.std.proofs.lemmas.List.{append-nil}
use Rattle.std.specs.Io.KnownBytes.{Appends, Keeps}

pub Appends-Appends : (a b c : Option (List ℕ)) (xs ys : List ℕ) → Appends a b xs → Appends b c ys
    → Appends a c (xs ++ ys)
Appends-Appends None b c xs ys first then = tt
Appends-Appends (Some x) None c xs ys first then = absurd first
Appends-Appends (Some x) (Some y) None xs ys first then = absurd then
Appends-Appends (Some x) (Some y) (Some z) xs ys first then = search (rules, append_assoc)

pub Appends-Keeps : (a b c : Option (List ℕ)) (xs : List ℕ) → Appends a b xs → Keeps b c → Appends a c xs
Appends-Keeps None b c xs grown kept = tt
Appends-Keeps (Some x) None c xs grown kept = absurd grown
Appends-Keeps (Some x) (Some y) None xs grown kept = absurd kept
Appends-Keeps (Some x) (Some y) (Some z) xs grown kept = kept ∙ grown

pub Appends-nothing : (a : Option (List ℕ)) → Appends a a []
Appends-nothing None = tt
Appends-nothing (Some x) = sym (append-nil x)

-- the bytes up to one index, and those from there to a later one
pub Appends-take : (a b c : Option (List ℕ)) (bytes rest : List ℕ) (at count : ℕ) → rest ≡ drop at bytes
    → Appends a b (take at bytes) → Appends b c (take count rest) → Appends a c (take (at + count) bytes)
Appends-take a b c bytes rest at count from first then = search (rules, take-add, Appends-Appends)
