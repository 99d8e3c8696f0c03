-- A run of the report, over a site that is pointed at its paths.
use Rattle.std.proofs.Common.{◌≡◌, ◌≤◌, ℕ, List, Option, true, Ok, Err, sym}
use Rattle.std.specs.Prelude.{Bool, IfErr, Result}
use Rattle.std.proofs.Math.Path.{subst}
use Rattle.std.proofs.lemmas.Result.{on_ok_weaker}
use Rattle.aide_db.specs.DeskView.{DeskView}
use Rattle.aide_db.specs.declared.fault.DbFault.{DbFault}
use Rattle.aide_db.specs.declared.side.Side.{Side}
use Rattle.aide_db.specs.declared.side.Side.TheVariants.{Old, New}
use Rattle.aide_db.specs.declared.sources.Sources.{Ghosts as AnySources}
use Rattle.aide_merge.specs.Asked.{Asked}
use Rattle.aide_merge.specs.Openings.{IsNotGiven, IsRefusedThere}
use Rattle.aide_merge.specs.RightAnswer.{HasCause, IsOfReliable}
use Rattle.aide_merge.specs.Room.{IsNotOfMemory}
use Rattle.aide_merge.specs.RunFaults.{IsRight}
use Rattle.aide_merge.specs.Seen.{seen, sink_seen}
use Rattle.aide_merge.specs.declared.outcome.Outcome.{Outcome}
use Rattle.aide_merge.specs.declared.run_fault.RunFault.{RunFault}
use Rattle.aide_report.specs.Run.{IsRun}
use Rattle.aide_report_specs.specs.Given.{GiveOneDigest}
use Rattle.aide_text.specs.Failures.{Rose}
use Rattle.aide_text.specs.declared.sink.Sink.{Ghosts as AnySink}
use Rattle.aide_site.specs.Answer.{limits}
use Rattle.aide_site.specs.Closing.{ComparesPair, Course, MeansOfPair, course_between}
use Rattle.aide_site.specs.Files.{Files}
use Rattle.aide_site.specs.code.Parts.{IsPointed, named_by}
use Rattle.aide_site.proofs.Comparisons.{caused_by}
use Rattle.aide_site.proofs.PointedLemmas.{means_of, pointed_tells}

-- the clauses about a fault together
fault_means : (files : Files) (wish : Asked) (config : List ℕ) (bytes_of : Side → Option (List ℕ)) (is_missing : Side → Bool)
    (reliable : Bool) (course : Course) (site out : Type 0) (first : DbFault → Type 0) (untold : Side → Type 0)
    (result : Result Outcome RunFault)
    → IsPointed files wish bytes_of is_missing → IfErr result (λ fault. HasCause fault site out first untold)
    → IfErr result (IsRight limits bytes_of) → IfErr result IsNotOfMemory → (reliable ≡ true → IfErr result (IsOfReliable bytes_of))
    → IfErr result (IsRefusedThere course.opened_before course.opened_after) → IfErr result (IsNotGiven course.given_after)
    → IfErr result (MeansOfPair files (named_by config wish) reliable course site out)
fault_means files wish config bytes_of is_missing reliable course site out first untold (Ok outcome) pointed cause right fed sure refused
    not_given =
    tt
fault_means files wish config bytes_of is_missing reliable course site out first untold (Err fault) pointed cause right fed sure refused
    not_given =
    means_of files wish bytes_of is_missing pointed config reliable course site out fault (caused_by site out first untold fault cause)
    right fed sure refused not_given

-- the comparison of a pair is that of the files at its paths
pub compares_pair : {S R W : Type 0} (src : AnySources S R) (w : AnySink W) (x y : S) (before after : W) (d e : DeskView) (wish : Asked)
    (config : List ℕ) (result : Result Outcome RunFault)
    → IsPointed (src.file_at x) wish (src.bytes_of x) (src.is_missing x) → limits.line ≤ d.room
    → IsRun limits wish (seen src x) (seen src y) d e (sink_seen w before) (sink_seen w after) result
    → ComparesPair (src.file_at x) (src.is_reliable x) (named_by config wish) wish.options result (course_between src w x y before after)
    (w.delivered before) (w.delivered after) (Rose (src.failures x) (src.failures y)) (Rose (w.failures before) (w.failures after))
compares_pair src w x y before after d e wish config result pointed enough ran =
    let tells = pointed_tells (src.file_at x) wish (src.bytes_of x) (src.is_missing x) pointed config in
    record {
      over = λ old new is_old is_new. ran.over old new (pointed.of_old old is_old) (pointed.of_new new is_new);
      fault = fault_means (src.file_at x) wish config (src.bytes_of x) (src.is_missing x) (src.is_reliable x)
          (course_between src w x y before after) _ _ _ _ result pointed ran.cause ran.right (ran.memory enough) ran.reliable ran.refused
          ran.not_given;
      sound = on_ok_weaker result (λ sound side text has. sound side text (tells side text has)) ran.sound;
      consistent = ran.consistent;
      unsent = ran.unsent;
      flushed = ran.flushed;
      flushes = ran.flushes;
      agreed = on_ok_weaker result
          (subst (λ (at : Side → ℕ → Option (List ℕ)). GiveOneDigest at (src.openings x) (src.openings y)) (sym ran.at_same)) ran.agreed;
      opens_told = ran.opens_told;
      opens = on_ok_weaker result
          (λ opens old new has_old has_new. opens old new (tells Old old has_old) (tells New new has_new)) ran.opens;
      opens_within = λ old new has_old has_new. ran.opens_within old new (tells Old old has_old) (tells New new has_new);
      opens_first = ran.opens_first;
    }
