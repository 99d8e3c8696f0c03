use Rattle.std.proofs.Common.{◌≡◌, refl, length, eq-eqb, false, Some, List, ℕ, rules}
use Rattle.aide_entry.specs.Entry.{entry_fault, is_path, path_of}
use Rattle.aide_fields.specs.Text.{fields}
use Rattle.aide_entry.specs.declared.column.Column.{Column}
use Rattle.aide_entry.specs.declared.fault_kind.DbFaultKind.TheVariants.{BadName}
use Rattle.aide_entry.proofs.EntryFaults.{sound_from}
use Rattle.aide_fields.proofs.SpanLemmas.{spans_count}
use Rattle.aide_entry.proofs.Order.{fault_order, fault_form}
use Rattle.aide_entry.proofs.entry.entry_fault.Goals as goal

-- a path without a slash is reported before its order
fault_path : (cs : List Column) (es : List (List ℕ)) (l : List ℕ) → length (fields l) ≡ length cs → is_path (path_of cs l) ≡ false
    → Some BadName ≡ entry_fault cs es l
fault_path cs es l count path = rw (eq-eqb (length (fields l)) (length cs) count, path) refl

pub returns-then-not-is_path-clause-sound : goal.returns-then-not-is_path-clause-sound
returns-then-not-is_path-clause-sound c = tt

pub returns-then-not-is_path-clause-found : goal.returns-then-not-is_path-clause-found
returns-then-not-is_path-clause-found c = search (rules, fault_path, spans_count)

pub returns-then-not-follows-clause-found : goal.returns-then-not-follows-clause-found
returns-then-not-follows-clause-found c = search (rules, fault_order, spans_count)

pub returns-clause-found : goal.returns-clause-found
returns-clause-found c = search (rules, fault_form, spans_count)

pub returns-clause-sound : goal.returns-clause-sound
returns-clause-sound c = search (rules, sound_from, spans_count)
