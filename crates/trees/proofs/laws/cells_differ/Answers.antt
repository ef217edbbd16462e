-- The cell tells the node and the place.
use Rattle.trees.proofs.Cells.{cells_differ}
use Rattle.trees.proofs.laws.cells_differ.Goals as goal

pub returns : goal.returns
returns c = cells_differ
