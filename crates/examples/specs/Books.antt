-- The tables of the worked examples: a line of two bars. Each bar has a start and a width and holds one note, and the line has a total width.
use Rattle.std.specs.Prelude.{ℕ, zero, suc, ◌/◌, ◌%◌, List, [], ◌∷◌, ◌++◌, length, slice_set}

-- the bytes of so many words, low byte first; the words that are left out at the end are 0
abbrev pub word_bytes : ℕ → List ℕ → List ℕ
word_bytes zero words = []
word_bytes (suc n) [] = 0 ∷ 0 ∷ word_bytes n []
word_bytes (suc n) (w ∷ words) = w % 256 ∷ w / 256 ∷ word_bytes n words

-- the bytes of a table: each record has six words
abbrev pub table_bytes : List (List ℕ) → List ℕ
table_bytes [] = []
table_bytes (r ∷ records) = word_bytes 6 r ++ table_bytes records

-- the attribute of a line: its width in all
abbrev pub total : ℕ
total = 1

-- the attribute of a bar: where it starts
abbrev pub start : ℕ
start = 2

-- the attribute of a bar: how wide it is
abbrev pub width : ℕ
width = 3

-- P: the first bar starts at 0, the second at the width of the first; the total is the sum of both widths; a bar is 5 wider than its note.
abbrev pub P : List (List ℕ)
P =
    -- 0: the first symbol is record 1, the first production record 8, and the start symbol is 1
    (1 ∷ 8 ∷ 1 ∷ [])
    -- 1 to 3: line, bar and note; next, kind (1 inner, 2 terminal), first attribute
    ∷ (2 ∷ 1 ∷ 4 ∷ [])
    ∷ (3 ∷ 1 ∷ 5 ∷ [])
    ∷ (0 ∷ 2 ∷ 7 ∷ [])
    -- 4 to 7: total, start, width and the note's length; next, kind (1 inherited, 2 synthesized, 3 given)
    ∷ (0 ∷ 2 ∷ [])
    ∷ (6 ∷ 1 ∷ [])
    ∷ (0 ∷ 2 ∷ [])
    ∷ (0 ∷ 3 ∷ [])
    -- 8 and 9: line to bar bar, bar to note; next, left side, first position, first rule
    ∷ (9 ∷ 1 ∷ 10 ∷ 12 ∷ [])
    ∷ (0 ∷ 2 ∷ 18 ∷ 19 ∷ [])
    -- 10 and 11: the two bars of the line; next, symbol
    ∷ (11 ∷ 2 ∷ [])
    ∷ (0 ∷ 2 ∷ [])
    -- 12 to 14: the first bar's start, the second bar's start, the total; next, position, attribute, first argument, operation, constant
    ∷ (13 ∷ 1 ∷ 2 ∷ 0 ∷ 1 ∷ [])
    ∷ (14 ∷ 2 ∷ 2 ∷ 15 ∷ 2 ∷ [])
    ∷ (0 ∷ 0 ∷ 1 ∷ 16 ∷ 2 ∷ [])
    -- 15: the first width, for the second start; next, position, attribute
    ∷ (0 ∷ 1 ∷ 3 ∷ [])
    -- 16 and 17: both widths, for the total
    ∷ (17 ∷ 1 ∷ 3 ∷ [])
    ∷ (0 ∷ 2 ∷ 3 ∷ [])
    -- 18: the note of the bar
    ∷ (0 ∷ 3 ∷ [])
    -- 19 and 20: the bar's width, and its argument
    ∷ (0 ∷ 0 ∷ 3 ∷ 20 ∷ 2 ∷ 5 ∷ [])
    ∷ (0 ∷ 1 ∷ 4 ∷ [])
    ∷ []

-- Q: the first bar's start is taken from the second width, by an argument that is record 21.
abbrev pub Q : List (List ℕ)
Q = slice_set P 12 (13 ∷ 1 ∷ 2 ∷ 21 ∷ 2 ∷ []) ++ (0 ∷ 2 ∷ 3 ∷ []) ∷ []

-- a table as it is but for the width, which takes the start too: a record more, behind the argument that is record 20
abbrev pub width_takes_start : List (List ℕ) → List (List ℕ)
width_takes_start table = slice_set table 20 (length table ∷ 1 ∷ 4 ∷ []) ++ (0 ∷ 0 ∷ 2 ∷ []) ∷ []

-- S: Q where the width takes the start too.
abbrev pub S : List (List ℕ)
S = width_takes_start Q

-- T: P where the width takes the start too.
abbrev pub T : List (List ℕ)
T = width_takes_start P
