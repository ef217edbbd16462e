-- A move does the first of the steps that are pending.
use Rattle.walk.proofs.Machine.{moves_perform_the_walk}
use Rattle.walk.proofs.paths.moves_perform_the_walk.Goals as goal

pub returns : goal.returns
returns c = moves_perform_the_walk
