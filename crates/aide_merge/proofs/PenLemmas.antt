-- From what a pen has written to what a run tells.
use Rattle.std.proofs.Common.{◌≡◌, ◌∙◌, ℕ, ◌≤◌, ◌<◌, Bool, true, false, List, [], refl, sym, subst, arith, Option}
use Rattle.std.specs.Io.KnownBytes.{Appends, Keeps}
use Rattle.std.proofs.lemmas.List.{append-nil}
use Rattle.aide_entry.specs.Count.{sum_of}
use Rattle.aide_text.specs.Failures.{Rose, one_more}
use Rattle.aide_merge.specs.RunFaults.{IsCaused, CountsWriteFault, HasPenWritten, HasWrittenIfAny}
use Rattle.aide_text.specs.Sent.{SendsPart, IsCounted}
use Rattle.aide_text.specs.Sheet.{Sheet, Wrote, WroteBy, WritesSome}
use Rattle.aide_text.specs.declared.pen.Pen.{Pen}
use Rattle.aide_merge.specs.declared.run_fault.RunFault.{RunFault}
use Rattle.aide_merge.specs.declared.run_fault.RunFault.TheVariants.{Changed, Write}
use Rattle.aide_text.proofs.Sending.{Appends-Keeps}
use Rattle.aide_text.proofs.Sheets.{from_fresh, wrote_whole}
use Rattle.aide_merge.proofs.AnswerLemmas.{true_false}

-- ---- after a flush

pub flushed_whole : {text : List ℕ} {a b : Sheet} (c : Option (List ℕ)) → a.failed ≡ false → b.failed ≡ false
    → Wrote text a b → Keeps b.bytes c → Appends a.bytes c text
flushed_whole {text} {a} {b} c fresh on p kept = Appends-Keeps a.bytes b.bytes c text (wrote_whole fresh on p) kept

pub flushed_part : {text : List ℕ} {a b : Sheet} (c : Option (List ℕ)) → a.failed ≡ false → b.failed ≡ false
    → Wrote text a b → Keeps b.bytes c → SendsPart text a.bytes c
flushed_part {text} {a} {b} c fresh on p kept =
    record { front = text; rest = []; whole = sym (append-nil text); bytes = flushed_whole c fresh on p kept }

pub flushed_count : {a b : Sheet} (c : Option (List ℕ)) → a.failed ≡ false → a.sent ≡ 0 → WritesSome a b
    → Keeps b.bytes c → IsCounted a.bytes c 0 b.sent
flushed_count {a} {b} c fresh start p kept =
    let sent = from_fresh fresh p in
    record { sent = sent.0; bytes = Appends-Keeps a.bytes b.bytes c sent.0 sent.1 kept; count = omega (arith, sent.2, start) }

pub never_falls : {a b : Sheet} → a.failed ≡ false → WritesSome a b → a.failures ≤ b.failures
never_falls {a} {b} fresh p = (from_fresh fresh p).3

-- one more failure
pub rises_by_one : (before middle after : ℕ) → before ≤ middle → after ≡ one_more middle → before ≤ after
rises_by_one before middle after le is = omega (arith, le, is)

pub rose_by_one : (before middle after : ℕ) → before ≤ middle → after ≡ one_more middle → Rose before after
rose_by_one before middle after le is below = omega (arith, le, is, below)

-- that many more failures
pub rises_by : (before middle after count : ℕ) → middle ≡ before → after ≡ sum_of middle count → before ≤ after
rises_by before middle after count is adds = omega (arith, is, adds)

pub rose_by : (before middle after count : ℕ) → middle ≡ before → 0 < count → after ≡ sum_of middle count
    → Rose before after
rose_by before middle after count is some adds below = omega (arith, is, some, adds, below)

-- ---- the fault of a report

pub count_of_pen : {a b : Sheet} → a.failed ≡ false → a.sent ≡ 0 → WritesSome a b → IsCounted a.bytes b.bytes 0 b.sent
count_of_pen {a} {b} fresh start p =
    let sent = from_fresh fresh p in record { sent = sent.0; bytes = sent.1; count = omega (arith, sent.2, start) }

pub written_of_pen : (pen : Pen) (before after : Option (List ℕ)) (fault : RunFault) → IsCounted before after 0 pen.sent
    → HasPenWritten pen fault → HasWrittenIfAny before after fault
written_of_pen pen before after (Write written) is counts = subst (λ n. IsCounted before after 0 n) (sym counts.1) is
written_of_pen pen before after _ is counts = tt

pub rose_of_pen : {a b : Sheet} → a.failed ≡ false → WritesSome a b → b.failed ≡ true → Rose a.failures b.failures
rose_of_pen {a} {b} fresh p failed below = let e = (from_fresh fresh p).4 failed in omega (arith, e)

pub caused_as : (sources first second : Type 0) (fault : RunFault) → (first → second) → IsCaused sources first fault
    → IsCaused sources second fault
caused_as sources first second (Changed side) f p = tt
caused_as sources first second (Write written) f p = f p
caused_as sources first second _ f p = p

-- ---- how often the sink has failed

unfailed_by : (text : List ℕ) (a b : Sheet) (f h : Bool) → f ≡ false → h ≡ false → WroteBy f h text a b
    → b.failures ≡ a.failures
unfailed_by text a b true h fresh on p = absurd (true_false fresh)
unfailed_by text a b false true fresh on p = absurd (true_false on)
unfailed_by text a b false false fresh on p = p.1

-- where the pen goes on the sink has not failed
pub unfailed : {a b : Sheet} → a.failed ≡ false → b.failed ≡ false → WritesSome a b → b.failures ≡ a.failures
unfailed {a} {b} fresh on p = unfailed_by p.text a b a.failed b.failed fresh on p.wrote.as_flags

-- a fault of writing comes with the one failure that the pen has met, and any other with none
pub counts_of_pen : {a b : Sheet} (pen : Pen) (fault : RunFault) → b.failed ≡ pen.failed → a.failed ≡ false
    → WritesSome a b → HasPenWritten pen fault → CountsWriteFault a.failures b.failures fault
counts_of_pen pen (Write written) is fresh p wrote = (from_fresh fresh p).4 (is ∙ wrote.0)
counts_of_pen pen _ is fresh p on = unfailed fresh (is ∙ on) p

-- before anything is written no fault is one of writing
pub counts_nothing : (sources : Type 0) (n : ℕ) (fault : RunFault) → IsCaused sources ⊥ fault
    → CountsWriteFault n n fault
counts_nothing sources n (Write written) p = absurd p
counts_nothing sources n _ p = refl

-- no flush
pub unflushed : {a b : Sheet} → WritesSome a b → b.flushes ≡ a.flushes
unflushed {a} {b} p = p.wrote.flushes
