-- A visit has two steps more than what is below.
use Rattle.walk.proofs.Tours.{walk_length}
use Rattle.walk.proofs.walks.walk_length.Goals as goal

pub returns : goal.returns
returns c = walk_length
