-- By number, and within a pass by order.
use Rattle.walk.proofs.Evaluations.{evaluation_is_unique}
use Rattle.walk.proofs.evaluation.evaluation_is_unique.Goals as goal

pub returns : goal.returns
returns g c = evaluation_is_unique _
