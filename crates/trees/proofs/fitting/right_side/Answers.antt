-- The production that is found is the grammar's.
use Rattle.std.proofs.Common.{rules}
use Rattle.trees.proofs.BookParts.{right_side}
use Rattle.trees.proofs.fitting.right_side.Goals as goal

pub returns : goal.returns
returns c = rw (right_side c.args.book.now c.args.production) (search rules)
