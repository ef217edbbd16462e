-- As many children as the right side has symbols.
use Rattle.walk.proofs.Places.{positions_have_children}
use Rattle.walk.proofs.instances.positions_have_children.Goals as goal

pub returns : goal.returns
returns c = positions_have_children
