-- Reading a file whole.
use Rattle.std.proofs.Common.{◌≡◌, ℕ, ◌≤◌, List, Option, Some, None, sym, ap, arith, true, false}
use Rattle.std.proofs.Math.Path.{subst}
use Rattle.aide_entry.specs.Count.{one_more, sum_of}
use Rattle.aide_site.specs.Files.{GivesFile, IsLarge, is_too_large}

pub given_file : (file to_come : Option (List ℕ)) (text : List ℕ) → GivesFile file to_come
    → ((xs : List ℕ) → to_come ≡ Some xs → (xs ≡ text) × (is_too_large xs ≡ false))
    → (file ≡ Some text) × (is_too_large text ≡ false)
given_file None to_come text gives all = absurd gives
given_file (Some xs) to_come text gives all =
    let p = all xs gives in (ap (λ (l : List ℕ). Some l) p.0, subst (λ (l : List ℕ). is_too_large l ≡ false) p.0 p.1)

pub large_file : (file to_come : Option (List ℕ)) → GivesFile file to_come
    → ((xs : List ℕ) → to_come ≡ Some xs → is_too_large xs ≡ true) → IsLarge file
large_file None to_come gives all = absurd gives
large_file (Some xs) to_come gives all = all xs gives

-- no more was looked up once the file is closed
pub lookups_after : (before opened closed : ℕ) → closed ≡ opened → opened ≤ one_more before → closed ≤ one_more before
lookups_after before opened closed same more = subst (λ (n : ℕ). n ≤ one_more before) (sym same) more

-- the count of failures does not fall while a file is opened and closed
pub failures_after : (before opened closed failures : ℕ) → opened ≡ before → closed ≡ sum_of opened failures → before ≤ closed
failures_after before opened closed failures same adds = grind (arith, same, adds)
