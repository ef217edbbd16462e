-- The forest that the check grows, below the root.
use Rattle.trees.proofs.Accepting.{accepted_holds_a_tree}
use Rattle.trees.proofs.theorems.accepted_holds_a_tree.Goals as goal

pub returns : goal.returns
returns c = accepted_holds_a_tree
