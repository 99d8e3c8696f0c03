-- When what the arguments ask for has an answer.
use Rattle.std.specs.Prelude.{◌≡◌, ℕ, List, Option, Some}
use Rattle.aide_db.specs.Side.{by_side}
use Rattle.aide_db.specs.declared.side.Side.{Side}
use Rattle.aide_site.specs.Answer.{Answer, Named, IsAnswerBy}
use Rattle.aide_site.specs.Closing.{AsksToCompare}
use Rattle.aide_site.specs.Files.{Files}
use Rattle.aide_site.specs.Says.{Says}
use Rattle.aide_words.specs.Job.{JobText}

-- it is known what is at the configuration's path, and at the paths of the databases that the
-- configuration names
pub record TellsNamed (files : Files) (wanted : Option JobText) : Type 0 where
  pub config : (job : JobText) → wanted ≡ Some job → (file : Option (List ℕ))
      × (files job.config ≡ Some file)
  pub databases : (named : Named) → AsksToCompare files wanted named → (side : Side)
      → (file : Option (List ℕ)) × (files (by_side named.old_path named.new_path side) ≡ Some file)

-- what the arguments ask for has an answer over these files
abbrev pub HasSessionAnswerBy : Says → Files → Option JobText → Type 0
HasSessionAnswerBy says files wanted = (named : Named) × (a : Answer)
    × IsAnswerBy says files wanted named a
