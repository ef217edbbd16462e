-- As often as the tree has the node.
use Rattle.walk.proofs.Tours.{walk_enters_each_once}
use Rattle.walk.proofs.walks.walk_enters_each_once.Goals as goal

pub returns : goal.returns
returns c = walk_enters_each_once
