-- The links of the row leave no choice.
use Rattle.trees.proofs.Accepting.{tree_is_unique}
use Rattle.trees.proofs.theorems.tree_is_unique.Goals as goal

pub returns : goal.returns
returns c = tree_is_unique
