-- How a session ends.
use Rattle.std.proofs.Common.{◌≡◌, ◌∙◌, ℕ, ◌≤◌, List, [], Option, Some, None, refl, sym, ap, arith, Bool, true, false}
use Rattle.std.proofs.Common.{inl, inr, ◌⊎◌}
use Rattle.std.specs.Prelude.{IsSome, unwrap_or}
use Rattle.std.specs.Io.KnownBytes.{Appends}
use Rattle.std.proofs.Math.Path.{subst}
use Rattle.aide_db.specs.Side.{by_side}
use Rattle.aide_db.specs.declared.side.Side.{Side}
use Rattle.aide_db.specs.declared.side.Side.TheVariants.{Old, New}
use Rattle.aide_entry.specs.Cause.{is_memory}
use Rattle.aide_entry.specs.declared.fault_kind.DbFaultKind.{DbFaultKind}
use Rattle.aide_entry.specs.declared.fault_kind.DbFaultKind.TheVariants.{Memory, Read}
use Rattle.aide_merge.specs.FaultStatus.{fault_status, kind_status}
use Rattle.aide_merge.specs.RightAnswer.{Causes, IsHindered}
use Rattle.aide_merge.specs.declared.run_fault.RunFault.{RunFault}
use Rattle.aide_merge.specs.declared.run_fault.RunFault.TheVariants.{Open, Database, Changed, Write}
use Rattle.aide_text.specs.Failures.{Rose}
use Rattle.aide_text.specs.Sent.{SendsPart}
use Rattle.aide_site.specs.Answer.{AnswerOf, Named}
use Rattle.aide_site.specs.Closing.{Course, HasText, MeansOfPair}
use Rattle.aide_site.specs.Ends.{EndsOf, Failure, FailureCause, Puts, Sinks, Starved, WholeOf, Written, failure_line, of_sites}
use Rattle.aide_site.specs.Ends.{config_unread, unopened, unread, unwritten}
use Rattle.aide_site.specs.Files.{Files}
use Rattle.aide_site.specs.JobSettings.{no_settings_line, no_settings_status}
use Rattle.aide_site.specs.Lines.{kind_line, run_fault_line}
use Rattle.aide_site.specs.Put.{HasNoFailure}
use Rattle.aide_site.specs.declared.job_config.NoSettings.{NoSettings}
use Rattle.aide_site.specs.declared.job_config.NoSettings.TheVariants as no
use Rattle.aide_site.specs.declared.whose.Whose.{Whose}
use Rattle.aide_site.specs.declared.whose.Whose.TheVariants.{Compared, Trusted}
use Rattle.aide_site.proofs.PutLemmas.{put_as}

abbrev pub sinks : (c d e f : Option (List ℕ)) → (m n : ℕ) → Sinks
sinks c d e f m n = record { out_old = c; out_new = d; err_old = e; err_new = f; err_before = m; err_after = n }

-- nothing is a beginning of anything
pub none_starts : (text : List ℕ) (c d : Option (List ℕ)) → Appends c d [] → SendsPart text c d
none_starts text c d bytes = record { front = []; rest = text; whole = refl; bytes = bytes }

-- no Bool is both
pub true_is_not_false : true ≡ false → ⊥
true_is_not_false e = cc

-- no Bool is true
pub never_true : (b : Bool) → (b ≡ true → ⊥) → b ≡ false
never_true true f = absurd (f refl)
never_true false f = refl

-- what holds of a site that is reliable, and of one that is not
pub by_reliable : (b : Bool) (P : Type 0) → (b ≡ true → P) → (b ≡ false → P) → P
by_reliable true P f g = f refl
by_reliable false P f g = g refl

pub no_failure_never_rose : (m n : ℕ) → HasNoFailure m n → Rose m n → ⊥
no_failure_never_rose m n unfailed rose = let h = rose unfailed.1 in omega (arith, h, unfailed.0)

pub rose_later : (m k n : ℕ) → m ≤ k → Rose k n → Rose m n
rose_later m k n h rose = λ below. let later = rose below in omega (arith, h, later)

pub same_some : (o : Option (List ℕ)) (x y : List ℕ) → o ≡ Some x → o ≡ Some y → x ≡ y
same_some o x y p q =
    sym (ap (λ (k : Option (List ℕ)). unwrap_or k []) p) ∙ ap (λ (k : Option (List ℕ)). unwrap_or k []) q

-- ---- from the answer to a session that keeps to it

no_cause : (failure : Failure) (site : Whose → Type 0) (out : Type 0) → ((whose : Whose) → site whose → ⊥) → (out → ⊥)
    → FailureCause failure site out → ⊥
no_cause config_unread site out unfailed unfailed_out cause = unfailed Compared cause
no_cause (unopened whose side) site out unfailed unfailed_out cause = unfailed whose cause
no_cause (unread whose fault) site out unfailed unfailed_out cause = unfailed whose cause.1
no_cause unwritten site out unfailed unfailed_out cause = unfailed_out cause

-- what is so at neither site
pub of_both : (site trusted_site : Type 0) → (site → ⊥) → (trusted_site → ⊥) → (whose : Whose) → of_sites site trusted_site whose → ⊥
of_both site trusted_site none trusted_none Compared is = none is
of_both site trusted_site none trusted_none Trusted is = trusted_none is

-- a fault that hinders, and is no want of memory, is a failed read
read_failed : (kind : DbFaultKind) (rose : Type 0) → is_memory kind ≡ false → Causes kind rose ⊥ → (kind ≡ Read) × rose
read_failed Read rose fed cause = (refl, cause)
read_failed Memory rose fed cause = absurd (true_is_not_false fed)
read_failed kind rose fed cause = absurd cause

-- what is there has a text
there : (known : Option (Option (List ℕ))) (file : Option (List ℕ)) → known ≡ Some file → IsSome file
    → ((text : List ℕ) → known ≡ Some (Some text) → ⊥) → ⊥
there known None told some none = cc
there known (Some text) told some none = none text told

there_side : (files : Files) (pair : Named) (old new : Option (List ℕ)) (side : Side) → files pair.old_path ≡ Some old
    → files pair.new_path ≡ Some new
    → IsSome (by_side old new side) → ((text : List ℕ) → HasText files pair side text → ⊥) → ⊥
there_side files pair old new Old told_old told_new some none = there (files pair.old_path) old told_old some none
there_side files pair old new New told_old told_new some none = there (files pair.new_path) new told_new some none

module _ {O : Type 0} (w : Written O) (a : AnswerOf O) (named : Whose → Named) (status : ℕ) (s : Sinks) (site : Whose → Type 0)
    (out : Type 0) where
  abbrev Ended : Type 0
  Ended = EndsOf w a named status s site out

  -- an ending without a failure
  pub ends_unfailed : ((whose : Whose) → site whose → ⊥) → (out → ⊥) → Ended → WholeOf w a status s ⊎ Starved status s
  ends_unfailed unfailed unfailed_out ends = elim ends [
    | inl whole ↦ inl whole
    | inr other ↦ elim other [
      | inl starved ↦ inr starved
      | inr broken ↦ absurd (no_cause broken.failure site out unfailed unfailed_out broken.cause)
    ]
  ]

  -- an ending with an answer that is equal
  pub whole_as : (b : AnswerOf O) → a ≡ b → WholeOf w b status s → Ended
  whole_as b same whole = inl (subst (λ (x : AnswerOf O). WholeOf w x status s) (sym same) whole)

  -- want of memory
  pub starved_for : (path : List ℕ) (why : NoSettings) → why ≡ no.Memory → status ≡ no_settings_status why
      → Appends s.out_old s.out_new [] → Puts (no_settings_line path why) s
      → Ended
  starved_for path why memory status_is none put = inr (inl (record {
    status_is = status_is ∙ ap no_settings_status memory;
    output = none;
    put = put_as _ _ (ap (no_settings_line path) memory) put;
  }))

  module _ (begun : w.begun a.output s.out_old s.out_new) where
    pub broken : (failure : Failure) → status ≡ 18 → FailureCause failure site out → Puts (failure_line named failure) s → Ended
    broken failure status_is cause put =
        inr (inr (record { status_is = status_is; output = begun; failure = failure; cause = cause; put = put }))

    -- a run over a pair that a fault kept from its answer
    pub hindered : (whose : Whose) (files : Files) (reliable : Bool) (course : Course) (rose sink : Type 0) (fault : RunFault)
        (old new : Option (List ℕ))
        → ((reliable ≡ false) × rose → site whose) → (sink → out)
        → files (named whose).old_path ≡ Some old → files (named whose).new_path ≡ Some new → status ≡ fault_status fault
        → Puts (run_fault_line whose (named whose).old_path (named whose).new_path fault) s
        → MeansOfPair files (named whose) reliable course rose sink fault → IsHindered old new rose sink fault
        → Ended
    hindered whose files reliable course rose sink (Open side) old new failed unsent told_old told_new status_is put means why =
        broken (unopened whose side) status_is (failed (
          never_true reliable (λ is. there_side files (named whose) old new side told_old told_new why.0 (means.reliable is)),
          why.1,
        )) put
    hindered whose files reliable course rose sink (Database fault) old new failed unsent told_old told_new status_is put means why =
        let read = read_failed fault.kind rose means.cause.2 why.1 in
        broken (unread whose fault) (status_is ∙ ap kind_status read.0)
        (read.0, failed (never_true reliable (λ is. means.reliable is read.0), read.1))
        (put_as _ _ (ap (kind_line whose fault) read.0) put)
    hindered whose files reliable course rose sink (Changed side) old new failed unsent told_old told_new status_is put means why =
        absurd why
    hindered whose files reliable course rose sink (Write written) old new failed unsent told_old told_new status_is put means why =
        broken unwritten status_is (unsent why) put
