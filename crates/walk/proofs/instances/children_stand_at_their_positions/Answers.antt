-- Along the chain of brothers.
use Rattle.walk.proofs.Places.{children_stand_at_their_positions}
use Rattle.walk.proofs.instances.children_stand_at_their_positions.Goals as goal

pub returns : goal.returns
returns c = children_stand_at_their_positions
