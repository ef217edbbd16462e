-- The place where the number stands.
use Rattle.trees.proofs.Parents.{every_node_has_a_parent}
use Rattle.trees.proofs.laws.every_node_has_a_parent.Goals as goal

pub returns : goal.returns
returns c = every_node_has_a_parent
