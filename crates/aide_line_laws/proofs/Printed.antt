-- What is read of the text of a value is the value.
use Rattle.std.proofs.Common.{◌≡◌, ℕ, zero, suc, ◌≤◌, true, false, List, [], ◌∷◌, ◌++◌, Some, refl, sym, ap, ◌∙◌, arith, append-nil}
use Rattle.std.proofs.Common.{IsUtf8}
use Rattle.std.specs.Prelude.{option_and_then}
use Rattle.json.specs.Json.{document, if_last, max_depth, string}
use Rattle.json.specs.Json as read
use Rattle.json.specs.Lex.{lex, between, after_value, fresh, punctuate}
use Rattle.json.specs.Tree.{json_tokens, items_tokens, members_tokens, depth, items_depth, members_depth}
use Rattle.json.proofs.Printed.Trees.{value-json_tokens}
use Rattle.aide_json.specs.Object as written
use Rattle.aide_json.specs.Value.{Value, null, truth, number, word, text, base16, array, object, print, value_texts, member_texts}
use Rattle.aide_json.specs.Value.{Values, no_values, value, Members, no_members, member, Member, line}
use Rattle.aide_json.specs.Value as value_of
use Rattle.aide_json.specs.Json.{json_text, quoted}
use Rattle.aide_line_laws.specs.Field.{fields_of, items_in, json_of, members_in, members_of}
use Rattle.aide_line_laws.specs.JsonLine.{IsJsonLine}
use Rattle.aide_line_laws.specs.Readable.{AreReadable, EachHasReadable, EachIsReadable, IsReadable}
use Rattle.aide_line_laws.proofs.Clean.{clean_plain, clean_text}
use Rattle.aide_line_laws.proofs.Pieces.{AreRead, Follows, IsPiece, bracketed, curly, false_piece, member_piece, nothing_read, null_piece}
use Rattle.aide_line_laws.proofs.Pieces.{number_piece, one_read, square, string_piece, true_piece}
use Rattle.aide_line_laws.proofs.Strings.{plain_digits, spells_same, spells_text}

mutual
  unfolding quoted written.array written.object square curly

  value_piece : (v : Value) (most : ℕ) → IsReadable v most → IsPiece (print v) (json_tokens (json_of v))
  value_piece null most h = null_piece
  value_piece (truth true) most h = true_piece
  value_piece (truth false) most h = false_piece
  value_piece (number digits) most h = number_piece digits h.0 (clean_plain digits h.1)
  value_piece (word bytes) most h = string_piece bytes bytes (spells_same bytes h) (clean_plain bytes h)
  value_piece (text bytes) most h = string_piece (json_text bytes) bytes (spells_text bytes h) (clean_text bytes h)
  value_piece (base16 bytes) most h =
      string_piece _ _ (spells_same _ (plain_digits bytes h)) (clean_plain _ (plain_digits bytes h))
  value_piece (array all) zero h = absurd h
  value_piece (array all) (suc most) h = bracketed square _ _ (values_read all most h)
  value_piece (object all) zero h = absurd h
  value_piece (object all) (suc most) h = bracketed curly _ _ (members_read all most h)

  values_read : (all : Values) (most : ℕ) → EachIsReadable all most
      → AreRead square (value_texts all) (items_tokens (items_in all))
  values_read no_values most h = nothing_read square
  values_read (value one more) most h = one_read square _ _ _ _ (value_piece one most h.0) (values_read more most h.1)

  members_read : (all : Members) (most : ℕ) → EachHasReadable all most
      → AreRead curly (member_texts all) (members_tokens (members_in all))
  members_read no_members most h = nothing_read curly
  members_read (member name one more) most h =
      one_read curly _ _ _ _ (member_piece name (print one) (json_tokens (json_of one)) h.0.0 (value_piece one most h.0.1))
      (members_read more most h.1)

mutual
  shallow : (v : Value) (most : ℕ) → IsReadable v most → depth (json_of v) ≤ most
  shallow null most h = omega arith
  shallow (truth is) most h = omega arith
  shallow (number digits) most h = omega arith
  shallow (word bytes) most h = omega arith
  shallow (text bytes) most h = omega arith
  shallow (base16 bytes) most h = omega arith
  shallow (array all) zero h = absurd h
  shallow (array all) (suc most) h = omega (arith, values_shallow all most h)
  shallow (object all) zero h = absurd h
  shallow (object all) (suc most) h = omega (arith, members_shallow all most h)

  values_shallow : (all : Values) (most : ℕ) → EachIsReadable all most → items_depth (items_in all) ≤ most
  values_shallow no_values most h = omega arith
  values_shallow (value one more) most h = omega (arith, shallow one most h.0, values_shallow more most h.1)

  members_shallow : (all : Members) (most : ℕ) → EachHasReadable all most
      → members_depth (members_in all) ≤ most
  members_shallow no_members most h = omega arith
  members_shallow (member name one more) most h = omega (arith, shallow one most h.0.1, members_shallow more most h.1)

nothing_follows : Follows []
unfolding lex
nothing_follows = (refl, refl)

nothing_left : punctuate after_value (lex between []) ≡ []
unfolding lex punctuate
nothing_left = refl

-- What is read of the text of a readable value is the value.
pub value_is_read_back : (v : Value) → IsReadable v max_depth → document (print v) ≡ Some (json_of v)
value_is_read_back v h =
    ap (λ l. option_and_then (λ p. if_last p.0 p.1) (read.value max_depth (punctuate fresh (lex between l)))) (sym (append-nil (print v)))
    ∙ ap (λ ts. option_and_then (λ p. if_last p.0 p.1) (read.value max_depth ts))
    ((value_piece v max_depth h).reads false [] nothing_follows ∙ ap (λ l. json_tokens (json_of v) ++ l) nothing_left)
    ∙ ap (option_and_then (λ p. if_last p.0 p.1)) (value-json_tokens (json_of v) max_depth [] (shallow v max_depth h))

-- A text that is UTF-8 is what a reader gets back from its string.
pub text_is_read_back : (bytes : List ℕ) → IsUtf8 bytes → document (print (text bytes)) ≡ Some (string bytes)
text_is_read_back bytes u = value_is_read_back (text bytes) u

-- members of an object are read in their order
pub in_order : (all : List Member) → members_in (value_of.members_of all) ≡ members_of (fields_of all)
in_order [] = refl
in_order (named ∷ more) = ap (read.member named.0 (json_of named.1)) (in_order more)

-- The line of readable members is one object of JSON and one line, and a reader gets back these members.
pub line_is_json : (all : List Member) → AreReadable all 127 → IsJsonLine (line all) (fields_of all)
unfolding written.line
line_is_json all h =
    let one : Value = object (value_of.members_of all) in record {
      value = print one;
      ends = refl;
      one_line = (value_piece one 128 h).clean.visible;
      utf8 = (value_piece one 128 h).clean.utf8;
      reads = value_is_read_back one h ∙ ap (λ ms. Some (read.object ms)) (in_order all);
    }
