-- Texts of the report that are padded and cut.
use Rattle.std.specs.Prelude.{ℕ, zero, suc, ◌+◌, ◌-◌, ◌/◌, ◌==◌, if◌then◌else◌, Bool, List, [], ◌∷◌}
use Rattle.std.specs.Prelude.{◌++◌, not, max, take, drop, length, replicate, codes}
use Rattle.aide_text.specs.Printed.{printed}

-- a text, padded with blanks to a width in bytes
unfoldable pub padded : ℕ → List ℕ → List ℕ
padded width text = text ++ replicate (width - length text) 32

-- a text and the end of its line
unfoldable pub ended : List ℕ → List ℕ
ended text = text ++ 10 ∷ []

-- the bar between two texts side by side
unfoldable pub bar : List ℕ
bar = codes " | "

-- the margin of each line below the first
unfoldable pub margin : List ℕ
margin = replicate 14 32

-- the blanks before a name
unfoldable pub indent : List ℕ
indent = codes "  "

-- the colon and the blank after a name
unfoldable pub colon_blank : List ℕ
colon_blank = codes ": "

-- the end of a line
unfoldable pub empty_line : List ℕ
empty_line = 10 ∷ []

-- a line with a word, a colon and a path
unfoldable pub path_line : List ℕ → List ℕ → List ℕ
path_line word path = word ++ (colon_blank ++ ended (printed path))

-- the head of a line: a name, aligned to the left in ten columns
unfoldable pub heading : List ℕ → List ℕ
heading name = indent ++ (padded 10 name ++ colon_blank)

-- how many pieces of 32 bytes a text has
abbrev pub piece_count : List ℕ → ℕ
piece_count text = (length text + 31) / 32

-- ---- two texts side by side

-- the old piece, aligned to the left in 32 columns, and the bar between it and the new piece
unfoldable pub left_part : List ℕ → List ℕ
left_part a = padded 32 a ++ bar

-- a piece of each text, and the end of the line
unfoldable pub pair_body : List ℕ → List ℕ → List ℕ
pair_body a b = left_part a ++ ended b

-- one line: its head, and a piece of each text
unfoldable pub pair_line : List ℕ → List ℕ → List ℕ → List ℕ
pair_line head a b = head ++ pair_body a b

-- the first lines of two texts, as many as this; the first of them begins with this head
unfoldable pub pair_lines : List ℕ → ℕ → List ℕ → List ℕ → List ℕ
pair_lines head zero a b = []
pair_lines head (suc n) a b = pair_line head (take 32 a) (take 32 b)
    ++ pair_lines margin n (drop 32 a) (drop 32 b)

-- whether either text has a byte
abbrev pub has_lines : List ℕ → List ℕ → Bool
has_lines a b = not (length a + length b == 0)

-- the next line below the first one, if either text has more bytes
unfoldable pub next_line : List ℕ → List ℕ → List ℕ
next_line a b = if has_lines a b then pair_line margin (take 32 a) (take 32 b) else []

-- as many lines as the longer text has pieces, and at least one
abbrev pub line_count : List ℕ → List ℕ → ℕ
line_count a b = max 1 (max (piece_count a) (piece_count b))

-- two texts side by side, next to a name
abbrev pub side_by_side : List ℕ → List ℕ → List ℕ → List ℕ
side_by_side name a b = pair_lines (heading name) (line_count a b) a b

-- ---- one text on several lines

-- one line: its head, and a piece of the text
unfoldable pub single_line : List ℕ → List ℕ → List ℕ
single_line head a = head ++ ended a

-- the first lines of a text, as many as this; the first of them begins with this head
unfoldable pub single_lines : List ℕ → ℕ → List ℕ → List ℕ
single_lines head zero a = []
single_lines head (suc n) a = single_line head (take 32 a) ++ single_lines margin n (drop 32 a)

-- one text, next to a name
unfoldable pub alone : List ℕ → List ℕ → List ℕ
alone name a = single_lines (heading name) (max 1 (piece_count a)) a
