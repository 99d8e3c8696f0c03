-- Texts that are read as some tokens wherever a value or a member may begin, and texts in brackets with commas between them.
use Rattle.std.proofs.Common.{◌≡◌, ℕ, Bool, true, false, cond, List, [], ◌∷◌, ◌++◌, Some, refl, sym, ap, ap₂, ◌∙◌, arith, append_assoc}
use Rattle.std.proofs.Common.{append-nil}
use Rattle.std.specs.Prelude.{codes}
use Rattle.json.specs.Token.{Token}
use Rattle.json.specs.Text.{content}
use Rattle.json.specs.Word.{ends_word, word}
use Rattle.json.specs.Lex.{Lexeme, token, colon, string_token, lex, between, Place, fresh, after_value, after_comma, begins_colon}
use Rattle.json.specs.Lex.{punctuate}
use Rattle.json.specs.Print.{IsNumber}
use Rattle.json.proofs.Printed.Numbers.{lex-number, in_word-ended}
use Rattle.aide_json.specs.Object.{behind, joined}
use Rattle.aide_json.specs.Value.{name_colon}
use Rattle.aide_line_laws.specs.Readable.{are_plain}
use Rattle.aide_line_laws.proofs.Strings.{Spells, spells_same}
use Rattle.aide_line_laws.proofs.Clean.{IsClean, clean_both, clean_byte, clean_nothing, clean_then, clean_plain}

-- a text that may stand behind a value: it ends a word and is no colon
abbrev pub Follows : List ℕ → Type 0
Follows r = (ends_word r ≡ true) × (begins_colon (lex between r) ≡ false)

-- where a value or a member may begin: behind a comma, or where none is needed
abbrev pub start : Bool → Place
start true = after_comma
start false = fresh

pub record IsPiece (t : List ℕ) (tokens : List Token) : Type 0 where
  pub clean : IsClean t
  pub reads : (comma : Bool) (r : List ℕ) → Follows r
      → punctuate (start comma) (lex between (t ++ r)) ≡ tokens ++ punctuate after_value (lex between r)

-- ---- values without parts

-- a string in quotes, before any text
lex_string : (t s r : List ℕ) → Spells t s → lex between (34 ∷ (t ++ 34 ∷ r)) ≡ token (Token.string s) ∷ lex between r
unfolding content lex
lex_string t s r h =
    ap₂ (λ o l. token (string_token o) ∷ l) (h.read (34 ∷ r) ∙ ap Some (append-nil s)) (h.lexed (34 ∷ r))

string_place : (comma : Bool) (s : List ℕ) (ls : List Lexeme) → begins_colon ls ≡ false
    → punctuate (start comma) (token (Token.string s) ∷ ls) ≡ Token.string s ∷ punctuate after_value ls
unfolding punctuate
string_place true s ls e = rw e
string_place false s ls e = rw e

pub string_piece : (t s : List ℕ) → Spells t s → IsClean t → IsPiece (34 ∷ (t ++ 34 ∷ [])) (Token.string s ∷ [])
string_piece t s h clean = record {
  clean = clean_then 34 _ (omega arith) (omega arith) (clean_both t (34 ∷ []) clean (clean_byte 34 (omega arith) (omega arith)));
  reads = λ comma r f.
      ap (λ l. punctuate (start comma) (lex between (34 ∷ l))) (append_assoc t (34 ∷ []) r)
      ∙ ap (punctuate (start comma)) (lex_string t s r h) ∙ string_place comma s (lex between r) f.1;
}

number_place : (comma : Bool) (s : List ℕ) (ls : List Lexeme)
    → punctuate (start comma) (token (Token.number s) ∷ ls) ≡ Token.number s ∷ punctuate after_value ls
unfolding punctuate
number_place true s ls = refl
number_place false s ls = refl

pub number_piece : (t : List ℕ) → IsNumber t → IsClean t → IsPiece t (Token.number t ∷ [])
number_piece t h clean = record {
  clean = clean;
  reads = λ comma r f. ap (punctuate (start comma)) (lex-number t r h f.0) ∙ number_place comma t (lex between r);
}

truth_place : (is comma : Bool) (ls : List Lexeme)
    → punctuate (start comma) (token (Token.boolean is) ∷ ls) ≡ Token.boolean is ∷ punctuate after_value ls
unfolding punctuate
truth_place is true ls = refl
truth_place is false ls = refl

null_place : (comma : Bool) (ls : List Lexeme)
    → punctuate (start comma) (token Token.null ∷ ls) ≡ Token.null ∷ punctuate after_value ls
unfolding punctuate
null_place true ls = refl
null_place false ls = refl

lex_true : (r : List ℕ) → ends_word r ≡ true → lex between (codes "true" ++ r) ≡ token (Token.boolean true) ∷ lex between r
unfolding lex word
lex_true r e = ap₂ (λ b l. token (cond b (Token.boolean true) Token.bad) ∷ l) e (in_word-ended r e)

lex_false : (r : List ℕ) → ends_word r ≡ true → lex between (codes "false" ++ r) ≡ token (Token.boolean false) ∷ lex between r
unfolding lex word
lex_false r e = ap₂ (λ b l. token (cond b (Token.boolean false) Token.bad) ∷ l) e (in_word-ended r e)

lex_null : (r : List ℕ) → ends_word r ≡ true → lex between (codes "null" ++ r) ≡ token Token.null ∷ lex between r
unfolding lex word
lex_null r e = ap₂ (λ b l. token (cond b Token.null Token.bad) ∷ l) e (in_word-ended r e)

pub true_piece : IsPiece (codes "true") (Token.boolean true ∷ [])
true_piece = record {
  clean = clean_plain (codes "true") refl;
  reads = λ comma r f. ap (punctuate (start comma)) (lex_true r f.0) ∙ truth_place true comma (lex between r);
}

pub false_piece : IsPiece (codes "false") (Token.boolean false ∷ [])
false_piece = record {
  clean = clean_plain (codes "false") refl;
  reads = λ comma r f. ap (punctuate (start comma)) (lex_false r f.0) ∙ truth_place false comma (lex between r);
}

pub null_piece : IsPiece (codes "null") (Token.null ∷ [])
null_piece = record {
  clean = clean_plain (codes "null") refl;
  reads = λ comma r f. ap (punctuate (start comma)) (lex_null r f.0) ∙ null_place comma (lex between r);
}

-- ---- members

key_place : (comma : Bool) (s : List ℕ) (ls : List Lexeme)
    → punctuate (start comma) (token (Token.string s) ∷ colon ∷ ls) ≡ Token.key s ∷ punctuate fresh ls
unfolding punctuate
key_place true s ls = refl
key_place false s ls = refl

lex_colon : (r : List ℕ) → lex between (58 ∷ r) ≡ colon ∷ lex between r
unfolding lex
lex_colon r = refl

named : (name t : List ℕ) (tokens : List Token) → are_plain name ≡ true → IsPiece t tokens
    → IsPiece (34 ∷ (name ++ 34 ∷ 58 ∷ t)) (Token.key name ∷ tokens)
named name t tokens e h = record {
  clean = clean_then 34 _ (omega arith) (omega arith) (clean_both name (34 ∷ 58 ∷ t) (clean_plain name e)
      (clean_then 34 _ (omega arith) (omega arith) (clean_then 58 t (omega arith) (omega arith) h.clean)));
  reads = λ comma r f.
      ap (λ l. punctuate (start comma) (lex between (34 ∷ l))) (append_assoc name (34 ∷ 58 ∷ t) r)
      ∙ ap (punctuate (start comma)) (lex_string name name (58 ∷ (t ++ r)) (spells_same name e)
      ∙ ap (λ l. token (Token.string name) ∷ l) (lex_colon (t ++ r)))
      ∙ key_place comma name (lex between (t ++ r))
      ∙ ap (λ l. Token.key name ∷ l) (h.reads false r f);
}

pub member_piece : (name t : List ℕ) (tokens : List Token) → are_plain name ≡ true → IsPiece t tokens
    → IsPiece (name_colon name ++ t) (Token.key name ∷ tokens)
unfolding name_colon
member_piece name t tokens e h =
    rw (ap (λ l. 34 ∷ l) (append_assoc name (34 ∷ 58 ∷ []) t)) (named name t tokens e h)

-- ---- texts in brackets

-- two bytes that are brackets, and their tokens
pub record Brackets : Type 0 where
  pub left : ℕ
  pub right : ℕ
  pub begin : Token
  pub end : Token
  pub opens : (comma : Bool) (r : List ℕ)
      → punctuate (start comma) (lex between (left ∷ r)) ≡ begin ∷ punctuate fresh (lex between r)
  pub follows : (r : List ℕ) → Follows (right ∷ r)
  pub early : (r : List ℕ) → punctuate fresh (lex between (right ∷ r)) ≡ end ∷ punctuate after_value (lex between r)
  pub late : (r : List ℕ) → punctuate after_value (lex between (right ∷ r)) ≡ end ∷ punctuate after_value (lex between r)
  pub left_clean : IsClean (left ∷ [])
  pub right_clean : IsClean (right ∷ [])

-- texts with commas between them, and the bracket behind them, are read as these tokens
pub record AreRead (b : Brackets) (texts : List (List ℕ)) (tokens : List Token) : Type 0 where
  pub clean : IsClean (joined texts)
  pub behind_clean : IsClean (behind texts)
  pub follows : (r : List ℕ) → Follows (behind texts ++ b.right ∷ r)
  pub reads : (r : List ℕ)
      → punctuate fresh (lex between (joined texts ++ b.right ∷ r)) ≡ tokens ++ punctuate after_value (lex between r)
  pub behind_reads : (r : List ℕ)
      → punctuate after_value (lex between (behind texts ++ b.right ∷ r)) ≡ tokens ++ punctuate after_value (lex between r)

unfoldable pub square : Brackets
unfolding lex punctuate
square = record {
  left = 91;
  right = 93;
  begin = Token.begin_array;
  end = Token.end_array;
  opens = opens_array;
  follows = λ r. (refl, refl);
  early = λ r. refl;
  late = λ r. refl;
  left_clean = clean_byte 91 (omega arith) (omega arith);
  right_clean = clean_byte 93 (omega arith) (omega arith);
}
  where
    opens_array : (comma : Bool) (r : List ℕ)
        → punctuate (start comma) (lex between (91 ∷ r)) ≡ Token.begin_array ∷ punctuate fresh (lex between r)
    opens_array true r = refl
    opens_array false r = refl

unfoldable pub curly : Brackets
unfolding lex punctuate
curly = record {
  left = 123;
  right = 125;
  begin = Token.begin_object;
  end = Token.end_object;
  opens = opens_object;
  follows = λ r. (refl, refl);
  early = λ r. refl;
  late = λ r. refl;
  left_clean = clean_byte 123 (omega arith) (omega arith);
  right_clean = clean_byte 125 (omega arith) (omega arith);
}
  where
    opens_object : (comma : Bool) (r : List ℕ)
        → punctuate (start comma) (lex between (123 ∷ r)) ≡ Token.begin_object ∷ punctuate fresh (lex between r)
    opens_object true r = refl
    opens_object false r = refl

module _ (b : Brackets) where
  pub nothing_read : AreRead b [] (b.end ∷ [])
  nothing_read = record {
    clean = clean_nothing;
    behind_clean = clean_nothing;
    follows = b.follows;
    reads = b.early;
    behind_reads = b.late;
  }

  module _ (t : List ℕ) (texts : List (List ℕ)) (tokens more : List Token) (one : IsPiece t tokens)
      (rest : AreRead b texts more) where
    reads_at : (comma : Bool) (r : List ℕ)
        → punctuate (start comma) (lex between ((t ++ behind texts) ++ b.right ∷ r))
        ≡ (tokens ++ more) ++ punctuate after_value (lex between r)
    reads_at comma r =
        ap (λ l. punctuate (start comma) (lex between l)) (append_assoc t (behind texts) (b.right ∷ r))
        ∙ one.reads comma (behind texts ++ b.right ∷ r) (rest.follows r)
        ∙ ap (λ l. tokens ++ l) (rest.behind_reads r)
        ∙ sym (append_assoc tokens more _)

    pub one_read : AreRead b (t ∷ texts) (tokens ++ more)
    unfolding lex punctuate
    one_read = record {
      clean = clean_both t (behind texts) one.clean rest.behind_clean;
      behind_clean = clean_then 44 _ (omega arith) (omega arith) (clean_both t (behind texts) one.clean rest.behind_clean);
      follows = λ r. (refl, refl);
      reads = reads_at false;
      behind_reads = reads_at true;
    }

  pub bracketed : (texts : List (List ℕ)) (tokens : List Token) → AreRead b texts tokens
      → IsPiece (b.left ∷ (joined texts ++ b.right ∷ [])) (b.begin ∷ tokens)
  bracketed texts tokens all = record {
    clean = clean_both (b.left ∷ []) _ b.left_clean (clean_both (joined texts) (b.right ∷ []) all.clean b.right_clean);
    reads = λ comma r f.
        ap (λ l. punctuate (start comma) (lex between (b.left ∷ l))) (append_assoc (joined texts) (b.right ∷ []) r)
        ∙ b.opens comma (joined texts ++ b.right ∷ r)
        ∙ ap (λ l. b.begin ∷ l) (all.reads r);
  }
