use Rattle.std.proofs.Common.{List, Option, Some, ap, sym, ℕ, rules}
use Rattle.std.specs.Prelude.{is_some}
use Rattle.aide_site.proofs.SiteLemmas.{found_in, gives_found}
use Rattle.aide_site.proofs.memory_site.MemorySiteSite.config.Goals as goal

pub returns-in-Some-clause-looks : goal.returns-in-Some-clause-looks
returns-in-Some-clause-looks c = record {
  counted = search rules;
  there = sym (ap is_some (found_in _ _ _ _ _ c.as_slice.ensures.value c.self.view_is c.in-Some.ensures));
}

pub returns-in-Some-clause-gives : goal.returns-in-Some-clause-gives
returns-in-Some-clause-gives c = λ file known.
    gives_found _ _ file (found_in _ _ _ _ _ c.as_slice.ensures.value c.self.view_is c.in-Some.ensures) known

pub returns-in-None-clause-looks : goal.returns-in-None-clause-looks
returns-in-None-clause-looks c = record {
  counted = search rules;
  there = sym (ap is_some (found_in _ _ _ _ _ c.as_slice.ensures.value c.self.view_is c.in-None.ensures));
}

pub returns-in-None-clause-gone : goal.returns-in-None-clause-gone
returns-in-None-clause-gone c =
    ap (λ (o : Option (List ℕ)). Some o) (found_in _ _ _ _ _ c.as_slice.ensures.value c.self.view_is c.in-None.ensures)
