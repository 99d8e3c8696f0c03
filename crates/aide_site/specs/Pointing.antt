-- What the calls of a site leave as it was.
use Rattle.std.specs.Prelude.{ℕ, ◌≡◌, ◌≢◌, Option, List}
use Rattle.aide_db.specs.declared.side.Side.{Side}
use Rattle.aide_db.specs.declared.sources.Sources.{Ghosts as AnySources}

-- The site is as it was, but for its files other than the two sides, and for failures.
pub record KeepsSite {S R : Type 0} (s : AnySources S R) (path_of : S → Side → Option (List ℕ))
    (a b : S) : Type 0 where
  -- each side gives the same bytes
  pub sides : s.bytes_of b ≡ s.bytes_of a
  -- each side is pointed at the same path
  pub paths : path_of b ≡ path_of a
  -- the same is known of each path
  pub files : s.file_at b ≡ s.file_at a
  -- the same sides are known to be missing
  pub missing : s.is_missing b ≡ s.is_missing a
  -- the site is as reliable as before
  pub reliable : s.is_reliable b ≡ s.is_reliable a
  -- no side was opened, and the last opening of each side ended as it did
  pub openings : s.openings b ≡ s.openings a
  pub given : s.was_given b ≡ s.was_given a

-- The site is as it was, but for the paths of its sides.
pub record KeepsFiles {S R : Type 0} (s : AnySources S R) (a b : S) : Type 0 where
  -- the same is known of each path
  pub files : s.file_at b ≡ s.file_at a
  -- no side was opened, and no other file, and the last opening of each side ended as it did
  pub openings : s.openings b ≡ s.openings a
  pub given : s.was_given b ≡ s.was_given a
  pub lookups : s.lookups b ≡ s.lookups a
  -- the site is as reliable as before
  pub reliable : s.is_reliable b ≡ s.is_reliable a
  -- no failure was counted
  pub failures : s.failures b ≡ s.failures a

-- Each side but this one is as it was.
pub record KeepsOthers {S R : Type 0} (s : AnySources S R) (path_of : S → Side → Option (List ℕ))
    (side : Side) (a b : S) : Type 0 where
  -- it gives the same bytes
  pub other : (x : Side) → x ≢ side → s.bytes_of b x ≡ s.bytes_of a x
  -- it is missing if it was
  pub other_missing : (x : Side) → x ≢ side → s.is_missing b x ≡ s.is_missing a x
  -- it is pointed at the same path
  pub other_path : (x : Side) → x ≢ side → path_of b x ≡ path_of a x

-- Both sides are as they were.
pub record KeepsSides {S R : Type 0} (s : AnySources S R) (path_of : S → Side → Option (List ℕ))
    (a b : S) : Type 0 where
  -- each gives the same bytes
  pub sides : s.bytes_of b ≡ s.bytes_of a
  -- each is missing if it was
  pub missing : s.is_missing b ≡ s.is_missing a
  -- each is pointed at the same path
  pub paths : path_of b ≡ path_of a
