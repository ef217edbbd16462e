-- The listing of a book or of a refusal, and what a list call does with it.
use Rattle.std.specs.Prelude.{ℕ, ◌+◌, ◌-◌, cond, List, [], ◌∷◌, ◌++◌, length, drop, Ok, Err, vec_items, codes, decimal, Result, ◌==◌, nat_le, slice_index}
use Rattle.grammar.specs.declared.book.Book.{Book}
use Rattle.grammar.specs.declared.vocabulary.Attribute.{Attribute}
use Rattle.refusal.specs.Numbers.{number, place}
use Rattle.refusal.specs.declared.Place.{Place}
use Rattle.refusal.specs.declared.Place.TheVariants.{At, Instance}
use Rattle.refusal.specs.declared.Refusal.{Refusal}
use Rattle.refusal.specs.declared.Refusal.TheVariants.{ListingTooLong}

-- every line ends so; numbers are written by std's `decimal`, in base ten without leading zeros
abbrev pub line_end : List ℕ
line_end = 10 ∷ []

-- an attribute's pass number, or a dash where 255 says that it has none
abbrev pub pass_number : ℕ → List ℕ
pass_number n = cond (n == 255) (codes "-") (decimal n)

-- an attribute by its number, with its symbol and its pass number
abbrev pub attribute_line : ℕ → ℕ → ℕ → List ℕ
attribute_line a symbol n = decimal a ++ codes " " ++ decimal symbol ++ codes " " ++ pass_number n ++ line_end

-- the lines of attributes numbered from a on; attribute a has its pass number at place a - 1
abbrev pub attribute_lines : List ℕ → ℕ → List Attribute → List ℕ
attribute_lines numbers a [] = []
attribute_lines numbers a (x ∷ rest) = attribute_line a x.symbol (slice_index numbers (a - 1)) ++ attribute_lines numbers (a + 1) rest

-- a line for each attribute, in number order, and a last one with the greatest pass number
abbrev pub book_listing : Book → List ℕ
book_listing b =
    attribute_lines b.numbers 1 (vec_items b.vocabulary.attributes) ++ codes "passes " ++ decimal b.passes ++ line_end

-- an attribute of a node is listed by the node
abbrev pub place_number : Place → ℕ
place_number (At n) = n
place_number (Instance site) = site.node

-- one line with the number of the refusal and its place
abbrev pub refusal_listing : Refusal → List ℕ
refusal_listing r =
    codes "refused " ++ decimal (number r) ++ codes " at " ++ decimal (place_number (place r)) ++ line_end

-- the listing of what loading gave
abbrev pub listing : Result Book Refusal → List ℕ
listing (Ok b) = book_listing b
listing (Err r) = refusal_listing r

-- the answer is the length of a listing that fits the buffer; a longer one is refused with the bytes that it needs
abbrev pub answer : List ℕ → List ℕ → Result ℕ Refusal
answer text buffer = cond (nat_le (length text) (length buffer)) (Ok (length text)) (Err (ListingTooLong (length text)))

-- the buffer then begins with the listing, and the rest stays; it stays whole where the listing does not fit
abbrev pub filled : List ℕ → List ℕ → List ℕ
filled text buffer = cond (nat_le (length text) (length buffer)) (text ++ drop (length text) buffer) buffer
