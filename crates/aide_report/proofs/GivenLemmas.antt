-- What the openings of a side gave: none, those of a pass, and those of further calls.
use Rattle.std.specs.Prelude.{◌≡◌, ◌≤◌, ◌<◌, ℕ, List, Option}
use Rattle.std.proofs.Common.{◌∙◌, ap, arith, inl, inr, subst, sym, rules}
use Rattle.std.proofs.lemmas.Bool.Decides.{leb_tells}
use Rattle.sha2.specs.Sha256.{sha256}
use Rattle.aide_db.specs.Answer.{StandsFor}
use Rattle.aide_entry.specs.Count.{sum_of}
use Rattle.aide_db.specs.Desk.{list_of, columns_of_side}
use Rattle.aide_db.specs.DeskView.{DeskView}
use Rattle.aide_db.specs.declared.limits.Limits.{Limits}
use Rattle.aide_db.specs.declared.reel.Reel.{Ghosts as Reels}
use Rattle.aide_db.specs.declared.side.Side.{Side}
use Rattle.aide_db.specs.declared.side.Side.TheVariants.{Old, New}
use Rattle.aide_entry.specs.declared.column.Column.{Column}
use Rattle.aide_report_specs.specs.Given.{GiveOneDigest}
use Rattle.aide_merge.specs.Openings.{OpensExactly}
use Rattle.aide_merge.specs.code.Digests.{AreDigests, digest_on}
use Rattle.aide_report.specs.code.GivenDigests.{GaveDigests, next_given}
use Rattle.aide_merge.specs.code.MergeCalls.{IsOpened, KeepsMerge}
use Rattle.aide_merge.specs.code.Merging.{cursor_at}
use Rattle.aide_merge.specs.declared.digests.Digests.{Digests}
use Rattle.aide_merge.specs.declared.merge.Merge.{Merge}

pub gave_none : (bytes_at : Side → ℕ → Option (List ℕ)) (openings : Side → ℕ) (digests : Digests)
    → GaveDigests bytes_at openings openings digests
gave_none bytes_at openings digests =
    record { each = λ side number text is. absurd (omega (arith, is.since, is.until)) }

pub gave_then : {bytes_at later : Side → ℕ → Option (List ℕ)} {a b c : Side → ℕ} {digests : Digests} → later ≡ bytes_at
    → GaveDigests bytes_at a b digests → GaveDigests later b c digests → GaveDigests bytes_at a c digests
gave_then {b = b} same first then = record {
  each = λ side number text is. elim (leb_tells (b side) number) [
    | inl since ↦ then.each side number text
        (record { since = since.1; until = is.until; gives = ap (λ bytes. bytes side number) same ∙ is.gives })
    | inr before ↦ first.each side number text (record { since = is.since; until = before.1; gives = is.gives })
  ];
}

opens_on : {a b : Side → ℕ} → OpensExactly a b 1 → (side : Side) → b side ≡ sum_of (a side) 1
opens_on opens Old = opens.of_old
opens_on opens New = opens.of_new

once : (before after number : ℕ) → after ≡ sum_of before 1 → before ≤ number → number < after → before ≡ number
once before after number opens since until = omega (arith, opens, since, until)

-- both sides were opened once
pub gave_once : {bytes_at : Side → ℕ → Option (List ℕ)} {a b : Side → ℕ} {digests : Digests} → OpensExactly a b 1
    → AreDigests (next_given bytes_at a) digests → GaveDigests bytes_at a b digests
gave_once {bytes_at} {a} {b} opens are = search (rules, once, opens_on)

-- a merge of both has come to its end, and has the same digests
pub gave_merged : {R : Type 0} {r : Reels R} {limits : Limits} {bytes_at : Side → ℕ → Option (List ℕ)} {a b c : Side → ℕ}
    {m n : Merge R} {e f : DeskView} {digests : Digests} → OpensExactly a b 1 → c ≡ b
    → IsOpened r limits (next_given bytes_at a) m e → KeepsMerge r m n e f
    → ((side : Side) (list : List ℕ) (under : List Column) (text : List ℕ) → StandsFor r.to_come (cursor_at n side) list under text
    → digest_on digests side ≡ sha256 text)
    → GaveDigests bytes_at a c digests
gave_merged {bytes_at = bytes_at} {a = a} {n = n} {f = f} {digests = digests} opens same opened keeps alike =
    subst (λ after. GaveDigests bytes_at a after digests) (sym same)
    (gave_once opens (λ side text told. alike side (list_of (cursor_at n side).side f) (columns_of_side (cursor_at n side).side f) text
    (keeps.stands side text (opened.stands side text told))))

-- each side has one digest
pub one_digest : {bytes_at : Side → ℕ → Option (List ℕ)} {a b : Side → ℕ} {digests : Digests}
    → GaveDigests bytes_at a b digests → GiveOneDigest bytes_at a b
one_digest gave side number other text more is also = sym (gave.each side number text is) ∙ gave.each side other more also
