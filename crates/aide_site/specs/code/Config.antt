-- What is left of a site when a configuration has been read.
use Rattle.std.specs.Prelude.{◌≡◌, ◌≤◌}
use Rattle.aide_entry.specs.Count.{one_more}
use Rattle.aide_db.specs.declared.sources.Sources.{Ghosts as AnySources}

-- At most one file was opened, once, and it was none of the two sides.
pub record OpensOneFile {S R : Type 0} (s : AnySources S R) (a b : S) : Type 0 where
  -- the same is known of every path
  pub files : s.file_at b ≡ s.file_at a
  -- the site is as reliable as before
  pub reliable : s.is_reliable b ≡ s.is_reliable a
  -- no side was opened
  pub openings : s.openings b ≡ s.openings a
  -- a file that is no side was opened once at most
  pub lookups : s.lookups b ≤ one_more (s.lookups a)
  -- the count of failures does not fall
  pub never_falls : s.failures a ≤ s.failures b
