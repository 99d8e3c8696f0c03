-- What is known of the files at the paths of a pair.
use Rattle.std.specs.Prelude.{[], ◌∷◌, Some}
use Rattle.aide_db.specs.EmptyDatabase.{empty_database}
use Rattle.aide_site.specs.Files.{Files}
use Rattle.aide_site.specs.declared.whose.Whose.{Whose}
use Rattle.aide_site.specs.declared.whose.Whose.TheVariants.{Compared, Trusted}

-- what is known of the files of a trusted pair: the empty path leads to the empty database, and
-- every other path to the file at this path
unfoldable pub trusted_at : Files → Files
trusted_at files [] = Some (Some empty_database)
trusted_at files (byte ∷ path) = files (byte ∷ path)

-- what is known of the files at the paths of a pair
abbrev pub files_of : Whose → Files → Files
files_of Trusted files = trusted_at files
files_of Compared files = files
