-- What a fault means over a site that is pointed at its paths.
use Rattle.std.proofs.Common.{◌≡◌, ℕ, List, Option, Some, true, sym}
use Rattle.std.specs.Prelude.{Bool}
use Rattle.std.proofs.Math.Path.{subst}
use Rattle.aide_db.specs.declared.side.Side.{Side}
use Rattle.aide_db.specs.declared.side.Side.TheVariants.{Old, New}
use Rattle.aide_merge.specs.Asked.{Asked}
use Rattle.aide_merge.specs.Openings.{IsNotGiven, IsRefusedThere}
use Rattle.aide_merge.specs.RightAnswer.{IsOfReliable}
use Rattle.aide_merge.specs.Room.{IsNotOfMemory}
use Rattle.aide_merge.specs.RunFaults.{IsCaused, IsRight}
use Rattle.aide_merge.specs.declared.run_fault.RunFault.{RunFault}
use Rattle.aide_merge.specs.declared.run_fault.RunFault.TheVariants.{Open, Database, Changed, Write}
use Rattle.aide_site.specs.Answer.{limits}
use Rattle.aide_site.specs.Closing.{Course, HasText, IsOfReliableFiles, MeansOfPair}
use Rattle.aide_site.specs.Files.{Files}
use Rattle.aide_site.specs.code.Parts.{IsPointed, named_by}
use Rattle.aide_site.proofs.Closings.{run_cause}

module _ (files : Files) (wish : Asked) (bytes_of : Side → Option (List ℕ)) (is_missing : Side → Bool)
    (pointed : IsPointed files wish bytes_of is_missing) (config : List ℕ) where
  -- a side gives the text that is at its path
  pub pointed_tells : (side : Side) (text : List ℕ) → HasText files (named_by config wish) side text → bytes_of side ≡ Some text
  pointed_tells Old text has = pointed.of_old (Some text) has
  pointed_tells New text has = pointed.of_new (Some text) has

  of_reliable : (fault : RunFault) → IsOfReliable bytes_of fault → IsOfReliableFiles files (named_by config wish) fault
  of_reliable (Open side) none = λ text has. let there = pointed_tells side text has in cc
  of_reliable (Database fault) none = none
  of_reliable (Changed side) none = tt
  of_reliable (Write written) none = tt

  -- what a fault means over the files at the paths
  pub means_of : (reliable : Bool) (course : Course) (site out : Type 0) (fault : RunFault) → IsCaused site out fault
      → IsRight limits bytes_of fault → IsNotOfMemory fault → (reliable ≡ true → IsOfReliable bytes_of fault)
      → IsRefusedThere course.opened_before course.opened_after fault → IsNotGiven course.given_after fault
      → MeansOfPair files (named_by config wish) reliable course site out fault
  means_of reliable course site out fault cause right fed sure refused not_given = record {
    cause = run_cause files (named_by config wish) bytes_of fault site out pointed_tells cause right fed;
    reliable = λ is. of_reliable fault (sure is);
    refused = refused;
    not_given = not_given;
  }

-- the same sites are pointed after a call that keeps what is known of the files
pub pointed_later : (files later : Files) (wish : Asked) (bytes_of : Side → Option (List ℕ)) (is_missing : Side → Bool)
    → later ≡ files → IsPointed files wish bytes_of is_missing → IsPointed later wish bytes_of is_missing
pointed_later files later wish bytes_of is_missing same pointed =
    subst (λ (f : Files). IsPointed f wish bytes_of is_missing) (sym same) pointed
