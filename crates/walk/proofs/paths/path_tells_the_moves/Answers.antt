-- Two ways to a path leave the same steps pending.
use Rattle.walk.proofs.Machine.{path_tells_the_moves}
use Rattle.walk.proofs.paths.path_tells_the_moves.Goals as goal

pub returns : goal.returns
returns c = path_tells_the_moves
