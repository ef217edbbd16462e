-- The lines of the attributes before this one are written.
use Rattle.std.proofs.Common.{length}
use Rattle.listing.proofs.Books.{attributes, Written}
use Rattle.listing.proofs.lines.book_page.Given as goal

abbrev pub invariant-loop-place : goal.invariant-loop-place
invariant-loop-place l = Written l.book.numbers (attributes l.book) (length l.yielded) l.page
