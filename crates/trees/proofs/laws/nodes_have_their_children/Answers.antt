-- At the root, and at each node below it.
use Rattle.trees.proofs.Symbols.{nodes_have_their_children}
use Rattle.trees.proofs.laws.nodes_have_their_children.Goals as goal

pub returns : goal.returns
returns c = nodes_have_their_children
