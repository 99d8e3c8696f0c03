-- Truth values, and choices by them.
use Rattle.std.proofs.Common.{◌≡◌, Bool, true, false, refl}
use Rattle.std.specs.Prelude.{Option, Some, None, if◌then◌else◌}

-- a choice that gives something is the first one
pub chosen : {X : Type 0} (b : Bool) (x : Option X) (v : X) → (if b then x else None) ≡ Some v → (b ≡ true) × (x ≡ Some v)
chosen true x v e = (refl, e)
chosen false x v e = cc

pub choose : {X : Type 0} (b : Bool) (x : Option X) (v : X) → b ≡ true → x ≡ Some v → (if b then x else None) ≡ Some v
choose true x v e f = f
choose false x v e f = cc
