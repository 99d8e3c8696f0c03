-- What contracts see of a reel over a file of the machine.
use Rattle.std.specs.Prelude.{ℕ, List, Option, Some}
use Rattle.aide_site.specs.declared.file_reel.FileReel.{FileReel}
use Rattle.aide_site.specs.declared.file_reel.FileReel.TheVariants.{File, Text}

-- the bytes still to come, by what the reader of a file shows
abbrev pub reel_to_come : {T : Type 0} → (T → Option (List ℕ)) → FileReel T → Option (List ℕ)
reel_to_come remaining (File reel) = remaining reel.reader
reel_to_come remaining (Text bytes) = Some bytes.now

-- how often it has failed
abbrev pub reel_failures : {T : Type 0} → FileReel T → ℕ
reel_failures (File reel) = reel.failures
reel_failures (Text bytes) = 0
