-- What is done and what is pending make the walk.
use Rattle.walk.proofs.Machine.{moves_follow_the_walk}
use Rattle.walk.proofs.paths.moves_follow_the_walk.Goals as goal

pub returns : goal.returns
returns c = moves_follow_the_walk
