-- The visit of a node stands in the walk, whole.
use Rattle.walk.proofs.Tours.{walk_nests}
use Rattle.walk.proofs.walks.walk_nests.Goals as goal

pub returns : goal.returns
returns c = walk_nests
