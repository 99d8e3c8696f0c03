-- What a session promises over any site. Every call that runs one promises this.
use Rattle.std.specs.Prelude.{◌≡◌, ◌≤◌, ◌⊎◌, ℕ, Bool, true, Option, max}
use Rattle.aide_entry.specs.Count.{one_more}
use Rattle.aide_db.specs.declared.sources.Sources.{Ghosts as AnySources}
use Rattle.aide_text.specs.Failures.{Rose}
use Rattle.aide_site.specs.Answer.{Answer, IsAnswerBy, Named}
use Rattle.aide_site.specs.Closing.{ClosesBy, Course, course_between}
use Rattle.aide_site.specs.Ends.{Ends, HasFailed, Sinks, Starved, Whole, sinks_between}
use Rattle.aide_site.specs.Existence.{HasSessionAnswerBy, TellsNamed}
use Rattle.aide_site.specs.Files.{Files}
use Rattle.aide_site.specs.Held.{HoldsWithin, most_held}
use Rattle.aide_site.specs.Put.{HasNoFailure}
use Rattle.aide_site.specs.Says.{Says}
use Rattle.aide_text.specs.declared.sink.Sink.{Ghosts as AnySink}
use Rattle.aide_words.specs.Job.{JobText}

-- What contracts see of a session, or of a part of one: how its devices were before, and how they are after it.
pub record SessionView : Type 0 where
  -- what was known of the files before
  pub files : Files
  -- whether the site was reliable before
  pub is_reliable : Bool
  -- how often the site has failed
  pub site_before : ℕ
  pub site_after : ℕ
  -- how often a file other than the databases was opened
  pub lookups_before : ℕ
  pub lookups_after : ℕ
  -- how often the output has failed
  pub out_before : ℕ
  pub out_after : ℕ
  -- what was written
  pub sinks : Sinks
  -- whether all that was put on standard error is passed on
  pub is_passed_on : Bool
  -- what was opened and flushed
  pub course : Course

-- the view of devices of any kind between two moments
abbrev pub view_between : {S R W E : Type 0} → AnySources S R → AnySink W → AnySink E
    → S → S → W → W → E → E → SessionView
view_between s w e site_old site_new out_old out_new err_old err_new = record {
  files = s.file_at site_old;
  is_reliable = s.is_reliable site_old;
  site_before = s.failures site_old;
  site_after = s.failures site_new;
  lookups_before = s.lookups site_old;
  lookups_after = s.lookups site_new;
  out_before = w.failures out_old;
  out_after = w.failures out_new;
  sinks = sinks_between w.delivered e.delivered e.failures out_old out_new err_old err_new;
  is_passed_on = e.is_flushed err_new;
  course = course_between s w site_old site_new out_old out_new;
}

-- A session with this status. `wanted` is what the arguments ask for, `says` what is written of a configuration that
-- is only checked. A comparison writes the report.
pub record IsSessionBy (says : Says) (wanted : Option JobText) (status : ℕ)
    (s : SessionView) : Type 0 where
  -- The session ends in one of three ways:
  -- - with the answer to the arguments;
  -- - out of memory, with no output;
  -- - with a failure that was counted, after the first bytes of the answer's output (none, some or all). Only the
  --   output or a site that is not reliable can fail so.
  pub ends : (named : Named) (a : Answer) → IsAnswerBy says s.files wanted named a
      → Ends a named status s.sinks (HasFailed s.is_reliable s.site_before s.site_after)
      (Rose s.out_before s.out_after)
  -- If no failure was counted, the session ends with the answer to the arguments or out of memory.
  pub exact : (named : Named) (a : Answer) → IsAnswerBy says s.files wanted named a
      → HasNoFailure s.site_before s.site_after → HasNoFailure s.out_before s.out_after
      → Whole a status s.sinks ⊎ Starved status s.sinks
  -- Over a reliable site, if the output counts no failure, the session ends with the answer to the arguments or out
  -- of memory. On such a site a file that is not there counts as a failure, but is an answer.
  pub reliable : (named : Named) (a : Answer) → IsAnswerBy says s.files wanted named a
      → s.is_reliable ≡ true → HasNoFailure s.out_before s.out_after
      → Whole a status s.sinks ⊎ Starved status s.sinks
  -- If standard error counts no failure, the lines have been passed on.
  pub passed_on : HasNoFailure s.sinks.err_before s.sinks.err_after → s.is_passed_on ≡ true
  -- If the site shows what is at the paths of the named files, there is an answer.
  pub answered : TellsNamed s.files wanted → HasSessionAnswerBy says s.files wanted
  -- Over any site: the lines, the status and the output are those of one closing, whose cause holds.
  pub closes : ClosesBy says s.files s.is_reliable wanted status s.sinks s.course
      s.site_before s.site_after (Rose s.out_before s.out_after)
  -- Besides the databases at most one file is opened, at most once.
  pub lookups : s.lookups_after ≤ one_more s.lookups_before

-- What the desk of such a session has held, by the most bytes that it had ever held before and after.
pub record HoldsBy (says : Says) (files : Files) (wanted : Option JobText)
    (before after : ℕ) : Type 0 where
  -- The peak does not fall.
  pub peak : before ≤ after
  -- It rises at most to three lines as long as the limit.
  pub below : after ≤ max before most_held
  -- If the texts of both databases are known, it rises at most to three of their lines.
  pub bound : (named : Named) (a : Answer) → IsAnswerBy says files wanted named a
      → HoldsWithin files named before after
