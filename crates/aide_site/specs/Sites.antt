-- What contracts see of sites: files in memory, and those of the machine.
use Rattle.std.specs.Prelude.{◌≡◌, ℕ, List, [], ◌∷◌, Option, Some, None, IsSome, is_none, is_some}
use Rattle.std.specs.Prelude.{Bool, true}
use Rattle.std.specs.Prelude.{if◌then◌else◌}
use Rattle.std.specs.Str.{bytes_eq}
use Rattle.aide_entry.specs.Count.{one_more}
use Rattle.aide_db.specs.Side.{by_side}
use Rattle.aide_db.specs.declared.side.Side.{Side}
use Rattle.aide_site.specs.Files.{Files}
use Rattle.aide_db.specs.EmptyDatabase.{empty_database}
use Rattle.aide_site.specs.declared.pointed.Aim.{Aim}
use Rattle.aide_site.specs.declared.pointed.Aim.TheVariants.{Nowhere, Empty, At}

-- A site in memory: its files by their paths, in the order in which they were added; what
-- the two sides are pointed at; how often each side was opened, and whether its last opening succeeded; how often
-- a configuration was opened; the number of failures.
pub record Shelf : Type 0 where
  pub files : List (List ℕ × List ℕ)
  pub old_aim : Aim
  pub new_aim : Aim
  pub old_openings : ℕ
  pub new_openings : ℕ
  pub old_given : Bool
  pub new_given : Bool
  pub lookups : ℕ
  pub failures : ℕ

-- a site over the files of the machine, by their handle; it does not show its files
pub record Machine (F : Type 0) : Type 0 where
  pub files : F
  pub old_aim : Aim
  pub new_aim : Aim
  pub old_openings : ℕ
  pub new_openings : ℕ
  pub old_given : Bool
  pub new_given : Bool
  pub lookups : ℕ
  pub failures : ℕ

-- the first of the two if it is there, otherwise the second
abbrev pub either : Option (List ℕ) → Option (List ℕ) → Option (List ℕ)
either (Some x) other = Some x
either None other = other

-- the bytes of a file, if this path is the path of the file
abbrev pub of_file : List ℕ × List ℕ → List ℕ → Option (List ℕ)
of_file file path = if bytes_eq file.0 path then Some file.1 else None

-- the bytes at a path: those of the last file that has this path
unfoldable pub bytes_at : List (List ℕ × List ℕ) → List ℕ → Option (List ℕ)
bytes_at [] path = None
bytes_at (file ∷ files) path = either (bytes_at files path) (of_file file path)

-- The file at a path was opened, or the opening was refused.
pub record HasLooked (path : List ℕ) (is_given : Bool) (a b : Shelf) : Type 0 where
  -- the opening was counted
  pub counted : b.lookups ≡ one_more a.lookups
  -- it succeeded exactly if there is a file
  pub there : is_given ≡ is_some (bytes_at a.files path)

-- what is at a path, which a site in memory always shows
abbrev pub files_at : Shelf → Files
files_at s path = Some (bytes_at s.files path)

-- the path that a side is pointed at, if it is pointed at one
abbrev pub aim_path : Aim → Option (List ℕ)
aim_path Nowhere = None
aim_path Empty = None
aim_path (At path) = Some path

-- the bytes that a side gives over these files
abbrev pub aim_bytes : List (List ℕ × List ℕ) → Aim → Option (List ℕ)
aim_bytes files Nowhere = None
aim_bytes files Empty = Some empty_database
aim_bytes files (At path) = bytes_at files path

-- the bytes that a side gives whose files are not shown
abbrev pub aim_text : Aim → Option (List ℕ)
aim_text Nowhere = None
aim_text Empty = Some empty_database
aim_text (At path) = None

-- the path that a side is pointed at
abbrev pub side_path : Shelf → Side → Option (List ℕ)
side_path s side = aim_path (by_side s.old_aim s.new_aim side)

-- the bytes that a side gives
abbrev pub side_bytes : Shelf → Side → Option (List ℕ)
side_bytes s side = aim_bytes s.files (by_side s.old_aim s.new_aim side)

-- the side is pointed neither at a file that is there nor at the empty database
abbrev pub side_missing : Shelf → Side → Bool
side_missing s side = is_none (side_bytes s side)

-- whether the last opening of a side succeeded
abbrev pub side_given : Shelf → Side → Bool
side_given s side = by_side s.old_given s.new_given side

-- The opening of a side succeeded: it was pointed at a file that is there or at the empty database.
pub record IsOpened (side : Side) (a b : Shelf) : Type 0 where
  pub there : IsSome (side_bytes a side)
  pub given : side_given b side ≡ true

-- how often a side was opened
abbrev pub side_openings : Shelf → Side → ℕ
side_openings s side = by_side s.old_openings s.new_openings side

-- the path that a side of a site over the machine's files is pointed at
abbrev pub machine_path : {F : Type 0} → Machine F → Side → Option (List ℕ)
machine_path s side = aim_path (by_side s.old_aim s.new_aim side)

-- the bytes that a side of such a site gives, if they are shown: only those of the empty database
abbrev pub machine_text : {F : Type 0} → Machine F → Side → Option (List ℕ)
machine_text s side = aim_text (by_side s.old_aim s.new_aim side)

-- whether the last opening of a side of the machine's files succeeded
abbrev pub machine_given : {F : Type 0} → Machine F → Side → Bool
machine_given s side = by_side s.old_given s.new_given side
