-- A second place would repeat the node's number.
use Rattle.trees.proofs.Parents.{parent_is_unique}
use Rattle.trees.proofs.laws.parent_is_unique.Goals as goal

pub returns : goal.returns
returns c = parent_is_unique
