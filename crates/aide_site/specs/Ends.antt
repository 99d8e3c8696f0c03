-- How a session ends.
use Rattle.std.specs.Prelude.{◌≡◌, ℕ, Bool, false, List, [], Option, ◌⊎◌}
use Rattle.std.specs.Io.KnownBytes.{Appends}
use Rattle.aide_db.specs.declared.fault.DbFault.{DbFault}
use Rattle.aide_entry.specs.declared.fault_kind.DbFaultKind.TheVariants.{Read}
use Rattle.aide_db.specs.declared.side.Side.{Side}
use Rattle.aide_db.specs.Side.{by_side}
use Rattle.aide_text.specs.Failures.{Rose}
use Rattle.aide_site.specs.Answer.{Answer, AnswerOf, Named}
use Rattle.aide_site.specs.Lines.{memory_line, unread_line, open_line, database_line, write_line}
use Rattle.aide_site.specs.Put.{Put}
use Rattle.aide_site.specs.declared.whose.Whose.{Whose}
use Rattle.aide_site.specs.declared.whose.Whose.TheVariants.{Compared, Trusted}
use Rattle.aide_text.specs.Sent.{SendsPart}

-- What was written, by the sinks before and after: the bytes of the output, the bytes of standard
-- error, and the failures that standard error has counted.
pub record Sinks : Type 0 where
  pub out_old : Option (List ℕ)
  pub out_new : Option (List ℕ)
  pub err_old : Option (List ℕ)
  pub err_new : Option (List ℕ)
  pub err_before : ℕ
  pub err_after : ℕ

-- what was written between two moments, by the bytes and failures that the devices show
abbrev pub sinks_between : {W E : Type 0} → (W → Option (List ℕ)) → (E → Option (List ℕ)) → (E → ℕ)
    → W → W → E → E → Sinks
sinks_between delivered put failures out_old out_new err_old err_new = record {
  out_old = delivered out_old;
  out_new = delivered out_new;
  err_old = put err_old;
  err_new = put err_new;
  err_before = failures err_old;
  err_after = failures err_new;
}

-- this text was put on standard error
abbrev pub Puts : List ℕ → Sinks → Type 0
Puts text sinks = Put text sinks.err_old sinks.err_new sinks.err_before sinks.err_after

-- ---- a failure

-- a failure of a device: the configuration or a database of either pair was not opened or not read, or the output was
-- not written
pub data Failure : Type 0 where
  config_unread : Failure
  unopened : Whose → Side → Failure
  unread : Whose → DbFault → Failure
  unwritten : Failure

-- the one of two for a pair
abbrev pub of_whose : {X : Type 0} → X → X → Whose → X
of_whose compared trusted Compared = compared
of_whose compared trusted Trusted = trusted

-- what is said of the site of each pair
abbrev pub of_sites : (site trusted_site : Type 0) → Whose → Type 0
of_sites site trusted_site Compared = site
of_sites site trusted_site Trusted = trusted_site

-- the line of a failure, by what each pair is named
abbrev pub failure_line : (Whose → Named) → Failure → List ℕ
failure_line named config_unread = unread_line (named Compared).config
failure_line named (unopened whose side) =
    open_line whose side (by_side (named whose).old_path (named whose).new_path side)
failure_line named (unread whose fault) = database_line whose fault
failure_line named unwritten = write_line

-- A site that is not reliable has counted a failure, by the counts before and after. On a reliable
-- site only one thing can fail: opening a file that is not there. That is an answer.
abbrev pub HasFailed : (is_reliable : Bool) → (before after : ℕ) → Type 0
HasFailed is_reliable before after = (is_reliable ≡ false) × Rose before after

-- the cause of a failure: the site of the pair or the output has counted one
abbrev pub FailureCause : Failure → (site : Whose → Type 0) → (out : Type 0) → Type 0
FailureCause config_unread site out = site Compared
FailureCause (unopened whose side) site out = site whose
FailureCause (unread whose fault) site out = (fault.kind ≡ Read) × site whose
FailureCause unwritten site out = out

-- ---- the end

-- How outputs of a type are written: a whole one, and no more than a beginning of one.
pub record Written (O : Type 0) : Type 1 where
  pub whole : O → (before after : Option (List ℕ)) → Type 0
  pub begun : O → (before after : Option (List ℕ)) → Type 0

-- the session ends with the complete answer
pub record WholeOf {O : Type 0} (w : Written O) (a : AnswerOf O) (status : ℕ) (sinks : Sinks)
    : Type 0 where
  pub status_is : status ≡ a.status
  pub output : w.whole a.output sinks.out_old sinks.out_new
  pub put : Puts a.errors sinks

-- The session ends out of memory, without any output. What a comparison may hold is reserved before
-- anything is written.
pub record Starved (status : ℕ) (sinks : Sinks) : Type 0 where
  pub status_is : status ≡ 22
  pub output : Appends sinks.out_old sinks.out_new []
  pub put : Puts memory_line sinks

-- The session ends with a failure of a site or of the output, after the first bytes of the
-- answer's output (none, some or all).
pub record Broken {O : Type 0} (w : Written O) (a : AnswerOf O) (named : Whose → Named) (status : ℕ)
    (sinks : Sinks) (site : Whose → Type 0) (out : Type 0) : Type 0 where
  pub status_is : status ≡ 18
  pub output : w.begun a.output sinks.out_old sinks.out_new
  pub failure : Failure
  pub cause : FailureCause failure site out
  pub put : Puts (failure_line named failure) sinks

-- A session ends in one of these three ways. `site` and `out` mean that the site of a pair or the output has
-- counted a failure.
abbrev pub EndsOf : {O : Type 0} → Written O → AnswerOf O → (Whose → Named) → ℕ → Sinks
    → (Whose → Type 0) → Type 0 → Type 0
EndsOf w a named status sinks site out = WholeOf w a status sinks
    ⊎ (Starved status sinks ⊎ Broken w a named status sinks site out)

-- ---- the end of a session whose output is a text, and which compares one pair

-- how texts are written
abbrev pub texts : Written (List ℕ)
texts = record {
  whole = λ text before after. Appends before after text;
  begun = λ text before after. SendsPart text before after;
}

-- it ends with the complete answer
abbrev pub Whole : Answer → ℕ → Sinks → Type 0
Whole a status sinks = WholeOf texts a status sinks

-- it ends in one of the three ways
abbrev pub Ends : Answer → Named → ℕ → Sinks → (site out : Type 0) → Type 0
Ends a named status sinks site out =
    EndsOf texts a (of_whose named named) status sinks (of_sites site ⊥) out
