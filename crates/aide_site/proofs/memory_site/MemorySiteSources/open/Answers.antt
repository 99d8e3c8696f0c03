use Rattle.std.proofs.Common.{◌≡◌, List, Option, Some, ap, refl, subst, sym, IsSome, ℕ, rules}
use Rattle.std.specs.Prelude.{IfSome, is_none}
use Rattle.aide_site.proofs.SiteLemmas.{found_on_side}
use Rattle.aide_site.proofs.memory_site.MemorySiteSources.open.Goals as goal

pub returns-in-Some-clause-there : goal.returns-in-Some-clause-there
returns-in-Some-clause-there c = record {
  there = subst IsSome
      (sym (found_on_side _ _ _ _ _ _ _ _ c.as_slice.ensures.value refl refl c.self.view_is c.aim.ensures c.in-Some.ensures)) refl;
  given = search rules;
}

pub returns-in-Some-clause-opened : goal.returns-in-Some-clause-opened
returns-in-Some-clause-opened c = record {
  refuses = ap is_none (found_on_side _ _ _ _ _ _ _ _ c.as_slice.ensures.value refl refl c.self.view_is c.aim.ensures c.in-Some.ensures);
  ok = search rules;
}

pub returns-in-None-clause-refused : goal.returns-in-None-clause-refused
returns-in-None-clause-refused c = record {
  refused = search rules;
  gives_none = λ _. found_on_side _ _ _ _ _ _ _ _ c.as_slice.ensures.value refl refl c.self.view_is c.aim.ensures c.in-None.ensures;
  fault = search rules;
}

pub returns-in-Some-clause-gives : goal.returns-in-Some-clause-gives
returns-in-Some-clause-gives c =
    subst (λ (o : Option (List ℕ)). IfSome o (λ bytes. Some c.in-Some.bytes.now ≡ Some bytes))
    (sym (found_on_side _ _ _ _ _ _ _ _ c.as_slice.ensures.value refl refl c.self.view_is c.aim.ensures c.in-Some.ensures)) refl

pub returns-in-None-clause-missing : goal.returns-in-None-clause-missing
returns-in-None-clause-missing c =
    found_on_side _ _ _ _ _ _ _ _ c.as_slice.ensures.value refl refl c.self.view_is c.aim.ensures c.in-None.ensures
