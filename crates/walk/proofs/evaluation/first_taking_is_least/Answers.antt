-- Over all rules of all productions.
use Rattle.walk.proofs.Takers.{first_taking_is_least}
use Rattle.walk.proofs.evaluation.first_taking_is_least.Goals as goal

pub returns : goal.returns
returns c = first_taking_is_least
