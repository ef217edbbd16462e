-- One line for each attribute; then the number of passes.
use Rattle.std.proofs.Common.{arith}
use Rattle.std.proofs.lemmas.List.{length_push}
use Rattle.listing.proofs.Books.{attributes, each_numbered, few_attributes, next_numbered, one_written}
use Rattle.listing.proofs.lines.book_page.Goals as goal

pub loop-place-preserved : goal.loop-place-preserved
loop-place-preserved c =
    let few = few_attributes c.args.book.now in
    let each = each_numbered {s = c.into_iter-place-iterator.result} (attributes c.args.book.now) c.args.book.now.numbers (cc) (cc) (cc) in
    let i = next_numbered _ _ each (omega (arith, few)) _ c.loop-place.place-iterator c.next.new.self c.loop-place.yielded_by _ _ c.in-Some.is c.next.ensures.steps in
    rw (length_push c.loop-place.yielded (c.in-Some.place, (c.in-Some.attribute, c.in-Some.number)))
    (one_written _ _ _ _ _ _ i c.loop-place.invariant c.write_attribute.ensures.written c.write_attribute.ensures.short)
