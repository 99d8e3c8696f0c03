-- The first piece of a line, by the index of its newline.
use Rattle.std.proofs.lemmas.Grind.{common_steps}
use Rattle.std.proofs.Common.{◌≡◌, ℕ, ◌+◌, ◌<◌, ◌≤◌, List, [], ◌∷◌, ◌++◌, length, take, drop, refl, sym, ap, ◌∙◌, subst, rules}
use Rattle.std.proofs.Common.{true, false, Bool, arith, get_or, None, Some, inl, inr, append_assoc, append-nil}
use Rattle.std.specs.Prelude.{min, ◌==◌, ◌-◌}
use Rattle.std.proofs.lemmas.Bool.{eqb-true, cases_lt, false_from_ne_true}
use Rattle.std.proofs.lemmas.List.{take-append-drop, take-append-le, get_or-take, get_or_default, length-take-le}
use Rattle.std.proofs.lemmas.List.{length-take, length-drop, drop_more, drop-drop, take_all, drop_all, length-append}
use Rattle.memchr.specs.Find.{IsFirstByte, is_byte}
use Rattle.aide_fields.specs.Text.{is_newline, is_filled}
use Rattle.sha2.specs.Hashers.{Holds256}
use Rattle.sha2.specs.declared.Sha256.{Sha256}
use Rattle.std.proofs.lemmas.List.Elements.{All-append}
use Rattle.aide_db.specs.code.Keeping.{IsWithinLimit}
use Rattle.aide_db.specs.code.TakeLine.{HasCome, HasNoNewline, HaveBegun, Begins}
use Rattle.aide_db.specs.NextChunk.{Gives}
use Rattle.aide_db.specs.declared.limits.Limits.{Limits}
use Rattle.aide_db.specs.code.Piece.{IsPiece}

-- the bytes before an index, none of them a newline
plain_front : (xs : List ℕ) (n : ℕ) → n ≤ length xs → ((k : ℕ) → k < n → is_newline (get_or xs k 0) ≡ true → ⊥)
    → HasNoNewline (take n xs)
plain_front xs n le none = search (rules, length-take-le, get_or-take, get_or_default, false_from_ne_true)

pub piece_some : (ahead near piece : List ℕ) (most at : ℕ) → near ≡ take most ahead
    → IsFirstByte (is_byte 10) near (Some at) → piece ≡ take at near → IsPiece ahead most piece true
piece_some ahead near piece most at e f g =
    grind (
      arith,
      common_steps,
      length-take,
      get_or-take,
      eqb-true,
      take-append-drop,
      take-append-le,
      length-take-le,
      drop_more,
      drop-drop,
      plain_front,
    )

none_left : (xs : List ℕ) (n : ℕ) → is_filled (drop n xs) ≡ true → n < length xs
none_left xs n e = elim (cases_lt n (length xs))
    [ inl lt ↦ lt | inr ge ↦ let z : is_filled (drop n xs) ≡ false = ap is_filled (drop_all n xs ge) in cc ]

-- the first bytes, so many at most, and the others
pub near_parts : (ahead near : List ℕ) (most : ℕ) → near ≡ take most ahead → ahead ≡ near ++ drop (length near) ahead
near_parts ahead near most e = search (rules, length-take, cases_lt, take_all, take-append-drop)

pub piece_none : (ahead near : List ℕ) (most : ℕ) → near ≡ take most ahead → IsFirstByte (is_byte 10) near None
    → IsPiece ahead most near false
piece_none ahead near most e f =
    let n : length near ≡ min most (length ahead) = ap length e ∙ length-take most ahead in
    record {
      parts = near_parts ahead near most e;
      none = subst (λ (p : List ℕ). HasNoNewline p) (take_all (length near) near (omega arith))
          (plain_front near (length near) (omega arith) (λ k lt. f k (omega arith) lt));
      short = omega (arith, n);
      newline = λ t. cc;
      all = λ t some. omega (arith, n, none_left ahead (length near) some);
    }

plain_take : (xs : List ℕ) (n : ℕ) → n ≤ length xs → HasNoNewline xs → HasNoNewline (take n xs)
plain_take xs n le none = search (rules, length-take-le, get_or-take)

-- what a reel gave, one call after another
pub gives_none : (bytes : List ℕ) (hash : Sha256) → Gives bytes bytes hash hash
gives_none bytes hash =
    record { given = []; parts = refl; hashed = λ m h. subst (Holds256 hash) (sym (append-nil m)) h }

pub gives_more : (a b c : List ℕ) (h i j : Sha256) → Gives a b h i → Gives b c i j → Gives a c h j
gives_more a b c h i j x y =
    record {
      given = x.given ++ y.given;
      parts = x.parts ∙ (ap (λ r. x.given ++ r) y.parts ∙ sym (append_assoc x.given y.given c));
      hashed = λ m g. subst (Holds256 j) (append_assoc m x.given y.given) (y.hashed (m ++ x.given) (x.hashed m g));
    }

-- a piece more of a line, of the bytes ahead
pub begun_more : (limits : Limits) (bytes line ahead rest left piece : List ℕ) (used used_now most : ℕ) (ends : Bool)
    → HaveBegun limits bytes used line left used_now → ahead ++ rest ≡ left → IsPiece ahead most piece ends
    → HaveBegun limits bytes used (line ++ piece) (drop (length piece) ahead ++ rest) (used_now + length piece)
begun_more limits bytes line ahead rest left piece used used_now most ends h same p =
    grind (arith, common_steps, append_assoc, All-append, length-append)

-- a line with too many bytes
pub begun_too_long : (limits : Limits) (bytes line ahead rest left piece : List ℕ) (used used_now most over : ℕ) (ends : Bool)
    → HaveBegun limits bytes used line left used_now → ahead ++ rest ≡ left → IsPiece ahead most piece ends
    → over ≤ length piece → length line + over ≡ limits.line + 1
    → (front : List ℕ) × HaveBegun limits bytes used front (drop over ahead ++ rest) (used_now + over) × (length front ≡ limits.line + 1)
begun_too_long limits bytes line ahead rest left piece used used_now most over ends h same p le sum =
    let part : take over ahead ≡ take over piece = ap (take over) p.parts ∙ take-append-le over piece (drop (length piece) ahead) le in
    let cut : ahead ≡ take over piece ++ drop over ahead = sym (ap (λ f. f ++ drop over ahead) (sym part) ∙ take-append-drop over ahead) in
    let count : length (take over piece) ≡ over = length-take-le over piece le in
    let none : HasNoNewline (take over piece) = plain_take piece over le p.none in (
      line ++ take over piece,
      record {
        parts = h.parts ∙ (ap (λ r. line ++ r) (sym same ∙
            (ap (λ r. r ++ rest) cut ∙ append_assoc (take over piece) (drop over ahead) rest))
            ∙ sym (append_assoc line (take over piece) (drop over ahead ++ rest)));
        none = All-append (λ b. is_newline b ≡ false) line (take over piece) h.none none;
        count = omega (arith, h.count, length-append line (take over piece), count);
      },
      omega (arith, length-append line (take over piece), count, sum),
    )

pub first_of : (xs : List ℕ) → is_filled xs ≡ true → (byte : ℕ) × (xs ≡ byte ∷ drop 1 xs)
first_of [] e = cc
first_of (x ∷ xs) e = (x, refl)

pub filled_more : (xs ys : List ℕ) → is_filled xs ≡ true → is_filled (xs ++ ys) ≡ true
filled_more [] ys e = cc
filled_more (x ∷ xs) ys e = refl

pub filled_length : (xs : List ℕ) → is_filled xs ≡ true → 0 < length xs
filled_length [] e = cc
filled_length (x ∷ xs) e = omega arith

-- a byte too many behind a piece
pub begun_too_many : (limits : Limits) (bytes line ahead rest left piece : List ℕ) (used used_now most : ℕ)
    → HaveBegun limits bytes used line left used_now → ahead ++ rest ≡ left → IsPiece ahead most piece false
    → is_filled (drop (length piece) ahead) ≡ true → length line + length piece ≤ limits.line
    → used_now + most ≡ limits.bytes
    → HaveBegun limits bytes used (line ++ piece) (drop (length piece) ahead ++ rest) (used_now + length piece)
    × (is_filled (drop (length piece) ahead ++ rest) ≡ true) × (length (line ++ piece) ≤ limits.line)
    × (used_now + length piece ≡ limits.bytes)
begun_too_many limits bytes line ahead rest left piece used used_now most h same p some short sum =
    grind (arith, common_steps, begun_more, filled_more, length-append)

-- a line that has begun stands at the front
pub begun_begins : (limits : Limits) (bytes line left : List ℕ) (used used_now : ℕ)
    → HaveBegun limits bytes used line left used_now → Begins bytes line
begun_begins limits bytes line left used used_now h = record { more = left; parts = h.parts; none = h.none }

-- what is not empty is filled
pub filled_from : (xs ys zs : List ℕ) → false ≡ (length xs == 0) → xs ≡ ys → ys ≡ zs → is_filled zs ≡ true
filled_from [] ys zs e f g = cc
filled_from (x ∷ xs) ys zs e f g = ap is_filled (sym (f ∙ g))

pub piece_length : (ahead piece : List ℕ) (most : ℕ) (ends : Bool) → IsPiece ahead most piece ends
    → length piece + length (drop (length piece) ahead) ≡ length ahead
piece_length ahead piece most ends p = sym (ap length p.parts ∙ length-append piece (drop (length piece) ahead))

pub piece_fits : (ahead piece : List ℕ) (most : ℕ) (ends : Bool) → IsPiece ahead most piece ends
    → length piece ≤ length ahead
piece_fits ahead piece most ends p = omega (arith, piece_length ahead piece most ends p)

pub over_fits : (ahead piece : List ℕ) (most space : ℕ) (ends : Bool) → IsPiece ahead most piece ends
    → space < length piece → space + 1 ≤ length ahead
over_fits ahead piece most space ends p over = omega (arith, piece_length ahead piece most ends p, over)

-- a line whose newline follows the piece
pub begun_ended : (limits : Limits) (bytes line ahead rest left piece : List ℕ) (used used_now most : ℕ) (ends : Bool)
    → HaveBegun limits bytes used line left used_now → ahead ++ rest ≡ left → IsPiece ahead most piece ends
    → ends ≡ true → length line + length piece ≤ limits.line
    → HasCome limits bytes used false (line ++ piece) (drop 1 (drop (length piece) ahead) ++ rest) (used_now + length piece + 1)
begun_ended limits bytes line ahead rest left piece used used_now most ends h same p end short =
    grind (arith, common_steps, begun_more, length-append)

-- the byte limit still holds once so many of the bytes ahead are used
pub within_used : (limits : Limits) (used count : ℕ) (before ahead : List ℕ) → IsWithinLimit limits used before
    → (length before ≤ limits.bytes - used + 1 → length ahead ≤ limits.bytes - used + 1)
    → count ≤ limits.bytes - used → IsWithinLimit limits (used + count) (drop count ahead)
within_used limits used count before ahead h most small = search (rules, length-drop)

pub near_whole : (ahead near : List ℕ) (most : ℕ) → near ≡ take most ahead → is_filled (drop (length near) ahead) ≡ true
    → length near ≡ most
near_whole ahead near most e some =
    omega (arith, ap length e, length-take most ahead, none_left ahead (length near) some)

pub near_short : (ahead near : List ℕ) (most : ℕ) → near ≡ take most ahead → length near ≤ most
near_short ahead near most e = omega (arith, ap length e, length-take most ahead)

pub near_fits : (ahead near : List ℕ) (most : ℕ) → near ≡ take most ahead → length near ≤ length ahead
near_fits ahead near most e = omega (arith, ap length e, length-take most ahead)
