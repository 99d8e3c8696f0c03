-- What a session promises that writes lines of JSON.
use Rattle.std.specs.Prelude.{◌≡◌, ◌≤◌, ◌⊎◌, ℕ, true, List, Option, Some, None, max}
use Rattle.std.specs.Prelude.{if◌then◌else◌, option_and_then}
use Rattle.aide_entry.specs.Count.{one_more}
use Rattle.aide_patterns.specs.List.{HasFirstFault}
use Rattle.aide_patterns.specs.declared.fault.ListFault.{ListFault}
use Rattle.aide_text.specs.Failures.{Rose}
use Rattle.aide_site.specs.Answer.{Named}
use Rattle.aide_line_session.specs.LineAnswer.{LineAnswer, HasLineAnswer, IsLineAnswer}
use Rattle.aide_line_session.specs.LineAnswer.{TellsForLines, trusted_of}
use Rattle.aide_line_session.specs.LineEnds.{LineView, EndsLinesBy, EndsWithin}
use Rattle.aide_line_session.specs.LineEnds.{WholeLines}
use Rattle.aide_site.specs.Ends.{HasFailed, Starved}
use Rattle.aide_site.specs.Held.{HoldsWithin, most_held}
use Rattle.aide_site.specs.Put.{HasNoFailure}
use Rattle.aide_line_session.specs.SettingsTold.{settings_told}
use Rattle.aide_site.specs.Session.{IsSessionBy, SessionView}
use Rattle.aide_site.specs.Trusted.{trusted_at}
use Rattle.aide_words.specs.LineJob.{LineJobText, line_job_of}
use Rattle.aide_words.specs.Job.{JobText, job_of}

-- The most that both desks have ever held, before and after.
pub record DeskPeaks : Type 0 where
  pub before : ℕ
  pub after : ℕ
  pub trusted_before : ℕ
  pub trusted_after : ℕ

-- what is seen of both sites and desks, as one
abbrev pub line_view : (s t : SessionView) → DeskPeaks → LineView
line_view s t desks = record {
  files = s.files;
  trusted_files = trusted_at t.files;
  is_reliable = s.is_reliable;
  trusted_reliable = t.is_reliable;
  site_after = s.site_after;
  trusted_before = t.site_before;
  trusted_after = t.site_after;
  out_before = s.out_before;
  out_after = s.out_after;
  sinks = s.sinks;
  course = s.course;
  trusted_course = t.course;
  peak_before = desks.before;
  peak_after = desks.after;
  trusted_peak_before = desks.trusted_before;
  trusted_peak_after = desks.trusted_after;
}

-- A session of a comparison, with this status. `s` is what is seen of the first site, `t` of the site of the trusted
-- pair. If the job names no trusted pair, the empty database is at both of its paths, which are empty.
pub record IsLineComparison (job : LineJobText) (status : ℕ) (s t : SessionView)
    (desks : DeskPeaks) : Type 0 where
  -- The session ends in one of three ways:
  -- - with the answer to the job;
  -- - out of memory, with no output;
  -- - with a failure that was counted, after the first bytes of the answer's output (none, some or all). Only the
  --   output or a site that is not reliable can fail so.
  pub ends : (named : Named) (a : LineAnswer)
      → IsLineAnswer s.files (trusted_at t.files) job named a
      → EndsWithin a named (trusted_of job) status s.sinks
      (HasFailed s.is_reliable s.site_before s.site_after)
      (HasFailed t.is_reliable t.site_before t.site_after) (Rose s.out_before s.out_after)
  -- If no failure was counted, the session ends with the answer to the job or out of memory.
  pub exact : (named : Named) (a : LineAnswer)
      → IsLineAnswer s.files (trusted_at t.files) job named a
      → HasNoFailure s.site_before s.site_after → HasNoFailure t.site_before t.site_after
      → HasNoFailure s.out_before s.out_after
      → WholeLines a status s.sinks ⊎ Starved status s.sinks
  -- Over reliable sites, if the output counts no failure, the session ends with the answer to the
  -- job or out of memory.
  pub reliable : (named : Named) (a : LineAnswer)
      → IsLineAnswer s.files (trusted_at t.files) job named a
      → s.is_reliable ≡ true → t.is_reliable ≡ true → HasNoFailure s.out_before s.out_after
      → WholeLines a status s.sinks ⊎ Starved status s.sinks
  -- If standard error counts no failure, the lines have been passed on.
  pub passed_on : HasNoFailure s.sinks.err_before s.sinks.err_after → s.is_passed_on ≡ true
  -- If it is known what is at the paths of the named files, there is an answer.
  pub answered : TellsForLines s.files (trusted_at t.files) job
      → HasLineAnswer s.files (trusted_at t.files) job
  -- Over any sites: the session stops before it opens a database, or compares the databases, and
  -- why.
  pub closes : EndsLinesBy job status s.site_before (line_view s t desks)
  -- Besides the databases at most one file is opened, at most once.
  pub lookups : s.lookups_after ≤ one_more s.lookups_before
  pub trusted_lookups : t.lookups_after ≡ t.lookups_before
  -- If the list has a fault, none is.
  pub unlooked : (fault : ListFault) → HasFirstFault job.without fault
      → s.lookups_after ≡ s.lookups_before
  -- The peak of neither desk falls, and it rises at most to three lines as long as the limit.
  pub peak : desks.before ≤ desks.after
  pub below : desks.after ≤ max desks.before most_held
  pub trusted_peak : desks.trusted_before ≤ desks.trusted_after
  pub trusted_below : desks.trusted_after ≤ max desks.trusted_before most_held
  -- If the texts of a pair are known, the peak of its desk rises at most to three of their lines.
  pub bound : (named : Named) (a : LineAnswer)
      → IsLineAnswer s.files (trusted_at t.files) job named a
      → HoldsWithin s.files named desks.before desks.after
  pub trusted_bound : (named : Named) (a : LineAnswer)
      → IsLineAnswer s.files (trusted_at t.files) job named a
      → HoldsWithin (trusted_at t.files) (trusted_of job) desks.trusted_before desks.trusted_after

-- the check of only a configuration, if the arguments ask for one
abbrev pub check_job_of : List (List ℕ) → Option JobText
check_job_of words = option_and_then (λ job. if job.compare then None else Some job) (job_of words)

-- A session that writes lines of JSON. If the arguments ask for a comparison, it is one of this job. Otherwise they may
-- ask for a check of a configuration; no database is opened then, and neither desk holds more than before.
pub record IsLineSession (words : List (List ℕ)) (status : ℕ) (s t : SessionView)
    (desks : DeskPeaks) : Type 0 where
  pub alone : line_job_of words ≡ None
      → IsSessionBy (Some settings_told) (check_job_of words) status s
  pub unopened : line_job_of words ≡ None → s.course.opened_after ≡ s.course.opened_before
  pub still : line_job_of words ≡ None → desks.after ≡ desks.before
  pub trusted_unopened : line_job_of words ≡ None
      → t.course.opened_after ≡ t.course.opened_before
  pub trusted_still : line_job_of words ≡ None → desks.trusted_after ≡ desks.trusted_before
  pub compares : (job : LineJobText) → line_job_of words ≡ Some job
      → IsLineComparison job status s t desks
