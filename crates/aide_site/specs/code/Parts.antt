-- What contracts say of a part of a session: what it did with the site, the output and standard error.
use Rattle.std.specs.Prelude.{◌≡◌, ℕ, ◌≤◌, Bool, List, Option, Some, max}
use Rattle.aide_db.specs.declared.side.Side.{Side}
use Rattle.aide_db.specs.declared.side.Side.TheVariants.{Old, New}
use Rattle.aide_db.specs.declared.sources.Sources.{Ghosts as AnySources}
use Rattle.aide_merge.specs.Asked.{Asked}
use Rattle.aide_merge.specs.RightAnswer.{TellsSide}
use Rattle.aide_text.specs.Failures.{Rose}
use Rattle.aide_site.specs.Answer.{Answer, Named}
use Rattle.aide_site.specs.Closing.{ClosesBy}
use Rattle.aide_site.specs.Files.{Files}
use Rattle.aide_site.specs.Held.{HoldsWithin, most_held}
use Rattle.aide_site.specs.Session.{SessionView, view_between}
use Rattle.aide_site.specs.Says.{Says}
use Rattle.aide_site.specs.declared.devices.Devices.{Devices}
use Rattle.aide_text.specs.declared.sink.Sink.{Ghosts as AnySink}
use Rattle.aide_words.specs.Job.{JobText}

-- the view of a part of a session, by its devices
abbrev pub part_between : {C S R W E : Type 0} → AnySources S R → AnySink W → AnySink E
    → Devices C S W E R → Devices C S W E R → SessionView
part_between s w e m n =
    view_between s w e m.site.now n.site.now m.out.now n.out.now m.err.now n.err.now

-- The devices are the same ones, whatever became of them.
pub record AreSame {C S R W E : Type 0} (m n : Devices C S W E R) : Type 0 where
  pub desk : n.desk.ghost_name ≡ m.desk.ghost_name
  pub site : n.site.ghost_name ≡ m.site.ghost_name
  pub out : n.out.ghost_name ≡ m.out.ghost_name
  pub err : n.err.ghost_name ≡ m.err.ghost_name

-- the session of what the arguments ask for ends by one closing, whose cause holds
abbrev pub ClosesFor : Says → Option JobText → ℕ → SessionView → Type 0
ClosesFor says wanted status s = ClosesBy says s.files s.is_reliable wanted status s.sinks s.course
    s.site_before s.site_after (Rose s.out_before s.out_after)

-- What a part of a session leaves of the desk's peak.
pub record KeepsPeak {C S R W E : Type 0} (m n : Devices C S W E R) : Type 0 where
  -- it does not fall
  pub never_falls : m.desk.now.peak ≤ n.desk.now.peak
  -- it rises at most to three lines as long as the limit
  pub below : n.desk.now.peak ≤ max m.desk.now.peak most_held

-- with each such answer over these files, the peak rises at most to three lines of the named databases
abbrev pub HoldsWith : {C S R W E : Type 0} → (Files → Named → Answer → Type 0) → Files
    → Devices C S W E R → Devices C S W E R → Type 0
HoldsWith is_answer files m n = (named : Named) (a : Answer) → is_answer files named a
    → HoldsWithin files named m.desk.now.peak n.desk.now.peak

-- the paths of what is asked for, and that of the configuration
abbrev pub named_by : List ℕ → Asked → Named
named_by config asked = record {
  config = config;
  old_path = asked.old_path;
  new_path = asked.new_path;
}

-- The sides of a site show what is at these two paths.
pub record IsPointed (files : Files) (asked : Asked) (bytes_of : Side → Option (List ℕ))
    (is_missing : Side → Bool) : Type 0 where
  pub of_old : (file : Option (List ℕ)) → files asked.old_path ≡ Some file
      → TellsSide (bytes_of Old) (is_missing Old) file
  pub of_new : (file : Option (List ℕ)) → files asked.new_path ≡ Some file
      → TellsSide (bytes_of New) (is_missing New) file
