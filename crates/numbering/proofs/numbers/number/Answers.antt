-- What the passes leave is the book's numbering.
use Rattle.std.proofs.Common.{length, ap, ◌∙◌, subst, arith}
use Rattle.grammar.specs.Numberings.{number_of, Least, Numbered}
use Rattle.grammar.specs.OfBook.{grammar_of}
use Rattle.numbering.proofs.BookNumbers.{book_least, book_numbered}
use Rattle.numbering.proofs.numbers.number.Goals as goal

pub invariant_of-book : goal.invariant_of-book
invariant_of-book g c =
    let book = c.args.book.now in
    let places = c.number_places-outcome.ensures.places in
    let numbered = book_numbered (grammar_of book) book.lawful book.arcs book.labelled _ c.deref.ensures.value _ _ _ _ places in
    record {
      lawful = book.lawful;
      labelled = book.labelled;
      few = omega (arith, ap length c.directions_of-directions.ensures, (g.met.P.Plan.bounded c.args.plan.now).1);
      numbered = ∣ subst (λ ds. Numbered (grammar_of book) ds c.number_places-outcome.new.numbers c.number_places-outcome.result.passes c.number_places-outcome.result.unnumbered) c.as_slice.ensures numbered ∣₁;
    }

pub returns-clause-least : goal.returns-clause-least
returns-clause-least g c =
    let book = c.args.book.now in
    subst (λ ds. Least (grammar_of book) ds (number_of c.number_places-outcome.new.numbers)) (c.as_slice.ensures ∙ c.directions_of-directions.ensures)
    (book_least (grammar_of book) book.lawful book.arcs book.labelled _ c.deref.ensures.value _ _ _ _ c.number_places-outcome.ensures.places)

pub returns-clause-numbered : goal.returns-clause-numbered
returns-clause-numbered g c =
    let book = c.args.book.now in
    subst (λ ds. Numbered (grammar_of book) ds c.number_places-outcome.new.numbers c.number_places-outcome.result.passes c.number_places-outcome.result.unnumbered) (c.as_slice.ensures ∙ c.directions_of-directions.ensures)
    (book_numbered (grammar_of book) book.lawful book.arcs book.labelled _ c.deref.ensures.value _ _ _ _ c.number_places-outcome.ensures.places)
