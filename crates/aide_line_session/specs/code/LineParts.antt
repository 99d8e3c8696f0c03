-- What contracts say of a part of a session of lines.
use Rattle.std.specs.Prelude.{◌≡◌, ℕ, List, Some}
use Rattle.aide_db.specs.declared.sources.Sources.{Ghosts as AnySources}
use Rattle.aide_line_run.specs.declared.run.TrustedPair.{TrustedPair}
use Rattle.aide_line_session.specs.LineEnds.{LineView}
use Rattle.aide_line_session.specs.LineSession.{DeskPeaks, line_view, check_job_of}
use Rattle.aide_site.specs.Session.{SessionView, view_between}
use Rattle.aide_line_session.specs.SettingsTold.{settings_told}
use Rattle.aide_site.specs.code.Parts.{ClosesFor, part_between}
use Rattle.aide_site.specs.declared.devices.Devices.{Devices}
use Rattle.aide_site.specs.declared.site.SiteWithDesk.{SiteWithDesk}
use Rattle.aide_text.specs.declared.sink.Sink.{Ghosts as AnySink}

-- what the site of the trusted pair shows of a part, by the other devices
abbrev pub trusted_between : {C S R W E : Type 0} → AnySources S R → AnySink W → AnySink E
    → Devices C S W E R → Devices C S W E R → SiteWithDesk S → SiteWithDesk S → SessionView
trusted_between s w e m n a b =
    view_between s w e a.site b.site m.out.now n.out.now m.err.now n.err.now

-- the peaks of both desks
abbrev pub peaks_between : {C S R W E : Type 0} → Devices C S W E R → Devices C S W E R
    → SiteWithDesk S → SiteWithDesk S → DeskPeaks
peaks_between m n a b = record {
  before = m.desk.now.peak;
  after = n.desk.now.peak;
  trusted_before = a.desk.peak;
  trusted_after = b.desk.peak;
}

-- all that is seen of a part
abbrev pub line_view_between : {C S R W E : Type 0} → AnySources S R → AnySink W → AnySink E
    → Devices C S W E R → Devices C S W E R → SiteWithDesk S → SiteWithDesk S → LineView
line_view_between s w e m n a b = line_view (part_between s w e m n)
    (trusted_between s w e m n a b) (peaks_between m n a b)

-- the site and the desk that a trusted pair lends
abbrev pub lent_pair : {S R A : Type 0} → TrustedPair S A R → SiteWithDesk S
lent_pair pair = record {
  site = pair.sources.now;
  desk = pair.desk.now;
}

-- A part of a session whose arguments ask for no comparison: it is one that may check a configuration
-- and opens no database.
pub record RunsAlone (words : List (List ℕ)) (status : ℕ) (s t : SessionView)
    (desks : DeskPeaks) : Type 0 where
  pub closes : ClosesFor (Some settings_told) (check_job_of words) status s
  pub unopened : s.course.opened_after ≡ s.course.opened_before
  pub still : desks.after ≡ desks.before
  pub trusted_unopened : t.course.opened_after ≡ t.course.opened_before
  pub trusted_still : desks.trusted_after ≡ desks.trusted_before
