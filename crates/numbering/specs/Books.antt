-- What the numbering of a book answers, and what it leaves as it is.
use Rattle.std.specs.Prelude.{◌≡◌, ℕ}
use Rattle.bitset.specs.Sets.{has, many}
use Rattle.grammar.specs.declared.book.Book.{Book}

-- The answer has the greatest number of the book, its set of the attributes that have none, and how many these are.
pub record Reported (b : Book) (passes unnumbered count : ℕ) : Type 0 where
  pub greatest : passes ≡ b.passes
  pub none : unnumbered ≡ b.unnumbered
  pub how_many : count ≡ many (has b.unnumbered) 64

-- The book holds the same grammar with the same arcs.
pub record SameGrammar (before after : Book) : Type 0 where
  pub vocabulary : after.vocabulary ≡ before.vocabulary
  pub productions : after.productions ≡ before.productions
  pub arcs : after.arcs ≡ before.arcs
