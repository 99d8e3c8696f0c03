use Rattle.std.proofs.Common.{◌≡◌, take}
use Rattle.std.specs.Option.{option_map}
use Rattle.aide_site.specs.Sites.{bytes_at}
use Rattle.aide_site.proofs.memory_site.look.Given as goal

abbrev pub invariant-loop-file : goal.invariant-loop-file
invariant-loop-file l = option_map (λ b. b.now) l.found ≡ bytes_at (take l.file-index l.files) l.path
