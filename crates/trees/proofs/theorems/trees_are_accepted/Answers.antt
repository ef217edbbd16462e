-- The check goes along the tree that is held.
use Rattle.trees.proofs.Accepting.{trees_are_accepted}
use Rattle.trees.proofs.theorems.trees_are_accepted.Goals as goal

pub returns : goal.returns
returns c = trees_are_accepted
