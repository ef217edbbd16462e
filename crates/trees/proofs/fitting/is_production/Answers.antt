-- The production that is found is the grammar's.
use Rattle.std.proofs.Common.{rules}
use Rattle.trees.proofs.BookParts.{left_side}
use Rattle.trees.proofs.fitting.is_production.Goals as goal

pub returns : goal.returns
returns c = rw (left_side c.args.book.now c.args.production c.args.left) (search rules)
