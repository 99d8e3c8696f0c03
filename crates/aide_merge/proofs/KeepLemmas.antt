-- What is left of the sources and of the desk, one call after the other.
use Rattle.std.specs.Prelude.{ℕ, ◌≡◌, Option, List, []}
use Rattle.std.proofs.Common.{refl, sym, subst, ◌∙◌, rules}
use Rattle.aide_db.specs.DeskView.{DeskView}
use Rattle.aide_db.specs.declared.limits.Limits.{Limits}
use Rattle.aide_db.specs.declared.side.Side.{Side}
use Rattle.aide_db.specs.declared.side.Side.TheVariants.{Old, New}
use Rattle.aide_merge.specs.Bound.{OpensWithin}
use Rattle.aide_merge.specs.code.Desks.{KeepsDesk, ClearsDesk}
use Rattle.aide_merge.specs.Seen.{Seen, KeepsSources}
use Rattle.aide_db.specs.Desk.{list_of}
use Rattle.aide_merge.proofs.BoundLemmas.{fits_cleared}

pub sources_none : (a : Seen) → KeepsSources a a
sources_none a = search rules

pub sources_then : {a b c : Seen} → KeepsSources a b → KeepsSources b c → KeepsSources a c
sources_then p q = search rules

pub desk_none : (limits : Limits) (bytes_of : Side → Option (List ℕ)) (d : DeskView) → KeepsDesk limits bytes_of d d
desk_none limits bytes_of d = record { room = refl; fits = λ old_line new_line before within_old within_new fits. fits }

pub desk_then : {limits : Limits} {bytes_of after : Side → Option (List ℕ)} {d e f : DeskView} → after ≡ bytes_of
    → KeepsDesk limits bytes_of d e → KeepsDesk limits after e f → KeepsDesk limits bytes_of d f
desk_then {limits} same p q = search rules

-- a desk whose lists are empty
pub clears : (limits : Limits) (bytes_of : Side → Option (List ℕ)) (d e : DeskView) → list_of Old e ≡ [] → list_of New e ≡ []
    → e.peak ≡ d.peak → e.room ≡ d.room → ClearsDesk limits bytes_of d e
clears limits bytes_of d e no_old no_new peak room = search (rules, fits_cleared)

-- a pass over both sides
pub clears_then : {limits : Limits} {bytes_of after : Side → Option (List ℕ)} {d e f : DeskView} → after ≡ bytes_of
    → ClearsDesk limits bytes_of d e → KeepsDesk limits after e f → ClearsDesk limits bytes_of d f
clears_then {limits} {d = d} same p q = record {
  room = q.room ∙ p.room;
  fits = λ old_line new_line within_old within_new. q.fits old_line new_line d.peak
      (subst (λ bytes. OpensWithin bytes limits Old old_line) (sym same) within_old)
      (subst (λ bytes. OpensWithin bytes limits New new_line) (sym same) within_new)
      (p.fits old_line new_line within_old within_new);
}
