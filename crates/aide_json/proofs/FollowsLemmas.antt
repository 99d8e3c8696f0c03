-- The test of each byte after three others is the test of the whole text.
use Rattle.std.proofs.Common.{◌≡◌, ℕ, ◌↔◌, Bool, true, false, ◌&&◌, List, [], ◌∷◌, arith, refl, ap, ◌∙◌, rules}
use Rattle.std.proofs.lemmas.Bool.{and_parts, and_from, cases_lt}
use Rattle.std.proofs.lemmas.Bool.Decides.{nat_tests}
use Rattle.std.specs.Str.{IsUtf8}
use Rattle.simdutf8.specs.Steps.{IsClosed, Step, first, second, later, StepsThen}
use Rattle.simdutf8.proofs.Chars.{StepsThen-IsUtf8}
use Rattle.aide_json.specs.code.Follows.{is_closed, may_follow, accepts}

pub to_closed : (x y z : ℕ) → is_closed x y z ≡ true → IsClosed x y z
to_closed x y z e = grind (arith, nat_tests, e)

pub from_closed : (x y z : ℕ) → IsClosed x y z → is_closed x y z ≡ true
from_closed x y z p = grind (arith, nat_tests, p)

pub to_step : (x y z c : ℕ) → may_follow x y z c ≡ true → Step x y z c
to_step x y z c e = search (rules, cases_lt, nat_tests)

pub from_step : (x y z c : ℕ) → Step x y z c → may_follow x y z c ≡ true
from_step x y z c (first p q) = grind (arith, nat_tests, p, q)
from_step x y z c (second p q r) = grind (arith, nat_tests, p, q, r)
from_step x y z c (later p q r) = grind (arith, nat_tests, p, q, r)

to_steps : (x y z : ℕ) (cs : List ℕ) → accepts x y z cs ≡ true → StepsThen IsClosed x y z cs
to_steps x y z [] e = to_closed x y z e
to_steps x y z (c ∷ cs) e = let p = and_parts _ _ e in (to_step x y z c p.0, to_steps y z c cs p.1)

from_steps : (x y z : ℕ) (cs : List ℕ) → StepsThen IsClosed x y z cs → accepts x y z cs ≡ true
from_steps x y z [] p = from_closed x y z p
from_steps x y z (c ∷ cs) p = and_from _ _ (from_step x y z c p.0) (from_steps y z c cs p.1)

-- what the test accepts from the beginning is UTF-8, and all of that
pub accepts-IsUtf8 : (cs : List ℕ) → (accepts 0 0 0 cs ≡ true) ↔ IsUtf8 cs
accepts-IsUtf8 cs = (λ e. (StepsThen-IsUtf8 cs).0 (to_steps 0 0 0 cs e), λ u. from_steps 0 0 0 cs ((StepsThen-IsUtf8 cs).1 u))

-- the answer of the test is the answer about the text
pub by_answer : (cs : List ℕ) (r : Bool) → accepts 0 0 0 cs ≡ r → (r ≡ true) ↔ IsUtf8 cs
by_answer cs true e = (λ t. (accepts-IsUtf8 cs).0 e, λ u. refl)
by_answer cs false e = search (rules, accepts-IsUtf8)

pub at_end : (cs rest : List ℕ) (x y z : ℕ) → accepts 0 0 0 cs ≡ accepts x y z rest → rest ≡ [] → accepts 0 0 0 cs ≡ is_closed x y z
at_end cs rest x y z e none = e ∙ ap (accepts x y z) none

pub at_fault : (cs before after : List ℕ) (x y z c : ℕ) → accepts 0 0 0 cs ≡ accepts x y z before → before ≡ c ∷ after → may_follow x y z c
    ≡ false → accepts 0 0 0 cs ≡ false
at_fault cs before after x y z c e is bad = e ∙ ap (accepts x y z) is ∙ ap (λ b. b && accepts y z c after) bad
