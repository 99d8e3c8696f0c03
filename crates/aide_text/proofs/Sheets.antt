-- What a pen has written, piece by piece.
use Rattle.std.proofs.lemmas.Grind.{common_steps}
use Rattle.std.proofs.Common.{rules, ◌≡◌, ◌∙◌, ℕ, ◌<◌, ◌≤◌, Bool, true, false, List, [], ◌++◌, length, take, drop}
use Rattle.std.proofs.Common.{refl, sym, ap, subst, append_assoc, length-append, arith}
use Rattle.std.proofs.lemmas.List.{append-nil, take-append-drop, length-take-le}
use Rattle.std.proofs.Math.Seq.{take-append_seam}
use Rattle.std.specs.Io.KnownBytes.{Appends}
use Rattle.std.proofs.lemmas.Bool.{true≢false}
use Rattle.aide_entry.specs.Count.{sum_of}
use Rattle.aide_text.specs.Failures.{one_more}
use Rattle.aide_text.specs.Sent.{IsCut, SendsPart}
use Rattle.aide_text.specs.Sheet.{Sheet, Adds, WroteBy, Wrote, Writing, WritesPart, WritesSome}
use Rattle.aide_text.proofs.Sending.{Appends-Appends, Appends-nothing}

adds_more : (x y : List ℕ) (a b c : Sheet) → Adds x a b → Adds y b c → Adds (x ++ y) a c
adds_more x y a b c p q = search (rules, Appends-Appends, length-append)

more_by : (x y : List ℕ) (a b c : Sheet) (f g h : Bool) → WroteBy f g x a b → WroteBy g h y b c
    → WroteBy f h (x ++ y) a c
more_by x y a b c true true h p q = (q.0, q.1 ∙ p.1)
more_by x y a b c true false h p q = absurd (true≢false (sym p.0))
more_by x y a b c false true true p q = search (rules, append_assoc, length-append)
more_by x y a b c false true false p q = absurd (true≢false (sym q.0))
more_by x y a b c false false true p q = record {
  front = x ++ q.front;
  rest = q.rest;
  whole = ap (λ l. x ++ l) q.whole ∙ sym (append_assoc x q.front q.rest);
  fewer = omega (arith, q.fewer, length-append x q.front, length-append x y);
  adds = adds_more x q.front a b c p.0 q.adds;
  failures = q.failures ∙ ap one_more p.1;
}
more_by x y a b c false false false p q = (adds_more x y a b c p.0 q.0, q.1 ∙ p.1)

-- one text was written, and then another
pub wrote_more : {x y : List ℕ} {a b c : Sheet} → Wrote x a b → Wrote y b c → Wrote (x ++ y) a c
wrote_more {x} {y} {a} {b} {c} p q = assumption (more_by x y a b c a.failed b.failed c.failed p.as_flags q.as_flags, q.flushes ∙ p.flushes)

nothing_by : (f : Bool) (a : Sheet) → f ≡ a.failed → WroteBy f f [] a a
nothing_by true a e = (refl, refl)
nothing_by false a e = (record { bytes = Appends-nothing a.bytes; count = omega arith }, refl)

by_flags : (text : List ℕ) (a b : Sheet) (f h : Bool) → a.failed ≡ f → b.failed ≡ h → b.flushes ≡ a.flushes
    → WroteBy f h text a b → Wrote text a b
by_flags text a b f h is_f is_h unflushed p = search (rules)

-- the sink has failed within the text
pub wrote_cut : (text : List ℕ) (a b : Sheet) (n : ℕ) → a.failed ≡ false → b.failed ≡ true → n < length text
    → Appends a.bytes b.bytes (take n text) → b.failures ≡ one_more a.failures → b.sent ≡ sum_of a.sent n
    → b.flushes ≡ a.flushes → Wrote text a b
wrote_cut text a b n fresh broken short bytes failures count unflushed =
    let so_many = length-take-le n text (omega (arith, short)) in
    by_flags text a b false true fresh broken unflushed (record {
      front = take n text;
      rest = drop n text;
      whole = sym (take-append-drop n text);
      fewer = omega (arith, short, so_many);
      adds = record { bytes = bytes; count = count ∙ ap (sum_of a.sent) (sym so_many) };
      failures = failures;
    })

-- nothing was to be written
pub wrote_nothing : (a : Sheet) → Wrote [] a a
wrote_nothing a = by_flags [] a a a.failed a.failed refl refl refl (nothing_by a.failed a refl)

pub wrote_as : {x y : List ℕ} {a b : Sheet} → x ≡ y → Wrote x a b → Wrote y a b
wrote_as {x} {y} {a} {b} e p = subst (λ l. Wrote l a b) e p

-- ---- a text that is being written

pub writing_start : (text : List ℕ) (a : Sheet) → Writing text text a a
writing_start text a = record { front = []; whole = refl; wrote = wrote_nothing a }

pub writing_more : {text rest piece more : List ℕ} {a b c : Sheet} → rest ≡ piece ++ more → Writing text rest a b
    → Wrote piece b c → Writing text more a c
writing_more {text} {rest} {piece} {more} {a} {b} {c} is p q = record {
  front = p.front ++ piece;
  whole = p.whole ∙ ap (λ l. p.front ++ l) is ∙ sym (append_assoc p.front piece more);
  wrote = wrote_more p.wrote q;
}

-- a piece of the rest was written, not all of it
pub writing_part : {text rest piece : List ℕ} (more : List ℕ) {a b c : Sheet} → rest ≡ piece ++ more
    → Writing text rest a b → WritesPart piece b c → WritesPart text a c
writing_part {text} {rest} {piece} more {a} {b} {c} is p q = record {
  rest = q.rest ++ more;
  writing = record {
    front = p.front ++ q.writing.front;
    whole = p.whole ∙ ap (λ l. p.front ++ l) (is ∙ ap (λ l. l ++ more) q.writing.whole ∙ append_assoc q.writing.front q.rest more)
        ∙ sym (append_assoc p.front q.writing.front (q.rest ++ more));
    wrote = wrote_more p.wrote q.writing.wrote;
  };
}

pub writing_done : {text rest : List ℕ} {a b : Sheet} → rest ≡ [] → Writing text rest a b → Wrote text a b
writing_done {text} {rest} {a} {b} none p = search (rules, wrote_as, append-nil)

pub writing_so_far : {text rest : List ℕ} {a b : Sheet} → Writing text rest a b → WritesPart text a b
writing_so_far {text} {rest} {a} {b} p = record { rest = rest; writing = p }

-- a text has been written, and others may follow
pub part_of_wrote : {text : List ℕ} (more : List ℕ) {a b : Sheet} → Wrote text a b → WritesPart (text ++ more) a b
part_of_wrote {text} more {a} {b} p = record { rest = more; writing = record { front = text; whole = refl; wrote = p } }

pub part_as : {x y : List ℕ} {a b : Sheet} → x ≡ y → WritesPart x a b → WritesPart y a b
part_as {x} {y} {a} {b} e p = subst (λ l. WritesPart l a b) e p

pub part_whole : {text : List ℕ} {a b : Sheet} → Wrote text a b → WritesPart text a b
part_whole {text} {a} {b} p = search (rules, append-nil)

pub part_nothing : (text : List ℕ) (a : Sheet) → WritesPart text a a
part_nothing text a = writing_so_far (writing_start text a)

pub some_nothing : (a : Sheet) → WritesSome a a
some_nothing a = record { text = []; wrote = wrote_nothing a }

pub some_of : {text : List ℕ} {a b : Sheet} → Wrote text a b → WritesSome a b
some_of {text} {a} {b} p = record { text = text; wrote = p }

pub some_more : {a b c : Sheet} → WritesSome a b → WritesSome b c → WritesSome a c
some_more {a} {b} {c} p q = record { text = p.text ++ q.text; wrote = wrote_more p.wrote q.wrote }

-- a text has been written, and then a part of another
pub part_after : {x y : List ℕ} {a b c : Sheet} → Wrote x a b → WritesPart y b c → WritesPart (x ++ y) a c
part_after {x} {y} {a} {b} {c} p q = record {
  rest = q.rest;
  writing = record {
    front = x ++ q.writing.front;
    whole = ap (λ l. x ++ l) q.writing.whole ∙ sym (append_assoc x q.writing.front q.rest);
    wrote = wrote_more p q.writing.wrote;
  };
}

pub writing_as : {text rest more : List ℕ} {a b : Sheet} → rest ≡ more → Writing text rest a b → Writing text more a b
writing_as {text} {rest} {more} {a} {b} e p = subst (λ l. Writing text l a b) e p

-- ---- from a pen to its sink

some_by : (text : List ℕ) (a b : Sheet) (f h : Bool) → a.failed ≡ f → b.failed ≡ h → f ≡ false → WroteBy f h text a b
    → (sent : List ℕ) × Appends a.bytes b.bytes sent × (b.sent ≡ sum_of a.sent (length sent)) × (a.failures ≤ b.failures)
    × (h ≡ true → b.failures ≡ one_more a.failures)
some_by text a b true h is_f is_h fresh p = absurd (true≢false fresh)
some_by text a b false true is_f is_h fresh p = search (rules)
some_by text a b false false is_f is_h fresh p = search (rules, true≢false)

-- what a fresh pen has written: some bytes, which it counts, and its sink's failures
pub from_fresh : {a b : Sheet} → a.failed ≡ false → WritesSome a b
    → (sent : List ℕ) × Appends a.bytes b.bytes sent × (b.sent ≡ sum_of a.sent (length sent)) × (a.failures ≤ b.failures)
    × (b.failed ≡ true → b.failures ≡ one_more a.failures)
from_fresh {a} {b} fresh p = some_by p.text a b a.failed b.failed refl refl fresh p.wrote.as_flags

cut_by : (text : List ℕ) (a b : Sheet) (f h : Bool) → f ≡ false → h ≡ true → a.sent ≡ 0 → WroteBy f h text a b
    → IsCut text a.bytes b.bytes b.sent
cut_by text a b true h fresh broken start p = absurd (true≢false fresh)
cut_by text a b false true fresh broken start p = grind (arith, common_steps, take-append_seam)
cut_by text a b false false fresh broken start p = absurd (true≢false (sym broken))

-- a pen that had written nothing has failed within its first text
pub cut_within : {text : List ℕ} {a b : Sheet} → a.failed ≡ false → b.failed ≡ true → a.sent ≡ 0 → Wrote text a b
    → IsCut text a.bytes b.bytes b.sent
cut_within {text} {a} {b} fresh broken start p = cut_by text a b a.failed b.failed fresh broken start p.as_flags

whole_by : (text : List ℕ) (a b : Sheet) (f h : Bool) → f ≡ false → h ≡ false → WroteBy f h text a b
    → Appends a.bytes b.bytes text
whole_by text a b true h fresh on p = absurd (true≢false fresh)
whole_by text a b false true fresh on p = absurd (true≢false on)
whole_by text a b false false fresh on p = p.0.bytes

-- a pen that goes on has written all of its text
pub wrote_whole : {text : List ℕ} {a b : Sheet} → a.failed ≡ false → b.failed ≡ false → Wrote text a b
    → Appends a.bytes b.bytes text
wrote_whole {text} {a} {b} fresh on p = whole_by text a b a.failed b.failed fresh on p.as_flags

part_by : (text : List ℕ) (a b : Sheet) (f h : Bool) → f ≡ false → WroteBy f h text a b → SendsPart text a.bytes b.bytes
part_by text a b true h fresh p = absurd (true≢false fresh)
part_by text a b false true fresh p = record { front = p.front; rest = p.rest; whole = p.whole; bytes = p.adds.bytes }
part_by text a b false false fresh p = search (rules, append-nil)

-- a part of a text that a pen has written has gone out
pub wrote_part : {text : List ℕ} {a b : Sheet} → a.failed ≡ false → WritesPart text a b → SendsPart text a.bytes b.bytes
wrote_part {text} {a} {b} fresh p = search (rules, part_by, append_assoc)

-- a part of the first of two texts has been written
pub part_first : {x : List ℕ} (y : List ℕ) {a b : Sheet} → WritesPart x a b → WritesPart (x ++ y) a b
part_first {x} y {a} {b} p = search (rules, append_assoc)
