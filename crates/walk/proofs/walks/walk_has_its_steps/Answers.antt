-- The steps of a walk.
use Rattle.walk.proofs.Turning.{walk_has_its_steps}
use Rattle.walk.proofs.walks.walk_has_its_steps.Goals as goal

pub returns : goal.returns
returns c = walk_has_its_steps
